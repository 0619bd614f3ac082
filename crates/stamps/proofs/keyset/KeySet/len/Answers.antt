use Rattle.std.proofs.Common.{◌^◌, ◌<◌, sym, ap, ◌∙◌, mod-eq_of_lt, rules}
use lib.Count.{ones}
use Rattle.stamps.specs.KeySets.{has}
use Rattle.stamps.proofs.BitSets.{ones_count}
use Rattle.stamps.proofs.keyset.KeySet.len.Goals as goal

-- a set is below 2 ^ 32, so its lowest 32 digits are all of it
pub returns : goal.returns
unfolding has
returns c =
    let fits : c.args.self.bits < 2 ^ 32 = search rules in
    ap ones (sym (mod-eq_of_lt fits)) ∙ ones_count 32 c.args.self.bits
