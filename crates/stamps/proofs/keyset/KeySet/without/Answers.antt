use Rattle.std.proofs.Common.{rules}
use Rattle.stamps.specs.KeySets.{has}
use Rattle.stamps.proofs.BitSets.{bit_strike}
use Rattle.stamps.proofs.keyset.KeySet.without.Goals as goal

pub returns : goal.returns
unfolding has
returns c k = rw c.number.ensures.number (bit_strike c.args.self.bits c.args.key k (search rules) c.number.ensures.below)
