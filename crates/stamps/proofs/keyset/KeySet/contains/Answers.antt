use Rattle.std.proofs.Common.{sym, refl, ◌∙◌, rules}
use Rattle.std.proofs.lemmas.Bool.{le-ltb, both_ways}
use Rattle.stamps.specs.KeySets.{has}
use Rattle.stamps.proofs.BitSets.{bit_above}
use Rattle.stamps.proofs.keyset.KeySet.contains.Goals as goal

pub returns-then-key-lt-KEYS : goal.returns-then-key-lt-KEYS
unfolding has
returns-then-key-lt-KEYS c = record { found = refl; within = λ _. c.if-key-lt-KEYS.true }

pub returns-else-key-lt-KEYS : goal.returns-else-key-lt-KEYS
unfolding has
returns-else-key-lt-KEYS c =
    let none = bit_above c.args.self.bits 32 c.args.key (search rules) c.if-key-lt-KEYS.false in
    record { found = le-ltb c.args.key 32 c.if-key-lt-KEYS.false ∙ sym none; within = λ t. absurd (both_ways _ none t) }
