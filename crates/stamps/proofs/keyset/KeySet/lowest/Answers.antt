use Rattle.std.proofs.Common.{rules}
use Rattle.stamps.specs.KeySets.{has}
use Rattle.stamps.proofs.BitSets.{lowest_of}
use Rattle.stamps.proofs.keyset.KeySet.lowest.Goals as goal

pub returns : goal.returns
unfolding has
returns c = rw c.ok.ensures.value (lowest_of c.args.self.bits c.try_from.result (search rules) c.try_from.ensures)
