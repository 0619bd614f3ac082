use Rattle.std.proofs.Common.{◌≡◌, map}
use Rattle.stamps.specs.KeySets.{has}
use Rattle.versions.specs.Joins.{joined_from}
use Rattle.versions.specs.Rows.{joined_rows}
use Rattle.versions.specs.Versions.{reach}
use Rattle.causal.specs.Holding.{holding}
use Rattle.causal.specs.Posting.{causes_of, row_of_post}
use Rattle.causal.proofs.cut.Cut.row_of.Given as goal

-- with the reaches of the causes that are left, the row becomes that of the post
abbrev pub invariant-loop-key : goal.invariant-loop-key
invariant-loop-key l =
    joined_from joined_rows l.row (map reach (causes_of (holding l.self) (has l.key-iterator.left)))
    ≡ row_of_post (causes_of (holding l.self) (has l.fn.causes))
