use Rattle.std.proofs.Common.{arith}
use Rattle.stamps.specs.KeySets.{has}
use Rattle.stamps.proofs.BitSets.{bit_above}
use Rattle.stamps.proofs.keyset.KeySet.empty.Goals as goal

pub returns : goal.returns
unfolding has
returns c k = bit_above 0 0 k (omega arith) (omega arith)
