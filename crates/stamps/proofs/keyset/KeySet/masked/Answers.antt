use Rattle.stamps.specs.KeySets.{has}
use Rattle.stamps.proofs.BitSets.{bit_of_and}
use Rattle.stamps.proofs.keyset.KeySet.masked.Goals as goal

pub returns : goal.returns
unfolding has
returns c k = bit_of_and c.args.self.bits c.args.other.bits k
