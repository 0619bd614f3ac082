use Rattle.std.proofs.Common.{ℕ, ◌*◌, ◌%◌, ◌^◌, Bool, ◌||◌, ap, ◌∙◌}
use Rattle.std.proofs.lemmas.Nat.{or_comm}
use Rattle.stamps.specs.KeySets.{has}
use Rattle.stamps.proofs.BitSets.{bit, bit_of_or, bit_shl}
use Rattle.stamps.proofs.keyset.KeySet.with.Goals as goal

pub returns : goal.returns
unfolding has
returns c k =
    let bits = c.args.self.bits in
    let key-bit = 1 * 2 ^ c.args.key % 2 ^ 32 in
    rw c.number.ensures.number
    (ap (λ (x : ℕ). bit x k) (or_comm bits key-bit) ∙ bit_of_or key-bit bits k
    ∙ ap (λ (b : Bool). b || bit bits k) (bit_shl 32 c.args.key k c.number.ensures.below))
