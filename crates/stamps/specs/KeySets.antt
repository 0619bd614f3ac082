-- A set of keys, as a number of 32 bits.
use Rattle.std.specs.Prelude.{◌≡◌, ℕ, ◌/◌, ◌%◌, ◌^◌, ◌<◌, Bool, true, false, not, ◌&&◌, Option, MatchOption, ◌==◌}
use Rattle.stamps.specs.declared.keyset.KeySet.{KeySet}

-- a key is in the set when the bit of its number is set
unfoldable pub has : KeySet → ℕ → Bool
has s k = s.bits / 2 ^ k % 2 == 1

-- the keys of a set are given one by one: its lowest key, which leaves the others, or none of the empty set
abbrev pub GivesLowest : KeySet → Option ℕ → KeySet → Type 0
GivesLowest s found left =
    MatchOption found (((k : ℕ) → has s k ≡ false) × (left ≡ s))
    (λ key. (has s key ≡ true) × ((k : ℕ) → k < key → has s k ≡ false) × ((k : ℕ) → has left k ≡ (not (k == key) && has s k)))
