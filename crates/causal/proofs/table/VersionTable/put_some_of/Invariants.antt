use Rattle.std.proofs.Common.{◌≡◌, ℕ}
use Rattle.stamps.specs.KeySets.{has}
use Rattle.causal.specs.Choosing.{put_in}
use Rattle.causal.specs.Held.{held_in}
use Rattle.causal.proofs.table.VersionTable.put_some_of.Given as goal

-- with what is left put in too, the table becomes the one that is wanted
abbrev pub invariant-loop-key : goal.invariant-loop-key
invariant-loop-key l =
    (k : ℕ) → put_in (held_in l.self) (held_in l.other) (has l.key-iterator.left) k ≡ put_in (held_in l.fn.self) (held_in l.other) (has l.fn.chosen) k
