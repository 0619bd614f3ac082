-- Choosing: which newer answers enter a cut.
use Rattle.std.specs.Prelude.{◌≡◌, ℕ, Bool, true, cond, ◌||◌, ◌⊎◌, nat_lt}
use Rattle.stamps.specs.Keys.{count_keys}
use Rattle.causal.specs.Tables.{Table, held_stamp, Causal}

-- an answer is newer than a table when its stamp is above the table's at its key
abbrev pub is_newer : Table → Table → ℕ → Bool
is_newer table answers k = nat_lt (held_stamp (table k)) (held_stamp (answers k))

-- a table is made of an old one and newer answers when it has at each key what the old one has, or the newer answer
abbrev pub MadeOf : Table → Table → Table → Type 0
MadeOf old answers table = (k : ℕ) → (table k ≡ old k) ⊎ ((is_newer old answers k ≡ true) × (table k ≡ answers k))

-- a causal table made of the old one and newer answers contains the answer at a key
pub record Contained (old answers : Table) (k : ℕ) (table : Table) : Type 0 where
  pub made : MadeOf old answers table
  pub causal : Causal table
  pub there : table k ≡ answers k

-- the outcome of choosing
pub record Chosen (old answers new : Table) (moved withheld : ℕ) : Type 0 where
  -- it is made of the old cut and newer answers
  pub made : MadeOf old answers new
  -- it is causal
  pub causal : Causal new
  -- it has every newer answer that any causal table made of the old cut and newer answers contains
  pub largest : (k : ℕ) → is_newer old answers k ≡ true → (table : Table) → Contained old answers k table → new k ≡ answers k
  -- moved counts the keys whose stamp rose
  pub counts_moved : moved ≡ count_keys (is_newer old new)
  -- withheld counts the answers that are newer still
  pub counts_withheld : withheld ≡ count_keys (is_newer new answers)

-- theorem: there is one outcome
abbrev pub OneOutcome : Type 0
OneOutcome =
    (old answers new new' : Table) (moved moved' withheld withheld' : ℕ)
    → Chosen old answers new moved withheld → Chosen old answers new' moved' withheld'
    → ((k : ℕ) → new k ≡ new' k) × (moved ≡ moved') × (withheld ≡ withheld')

-- a newer answer is withheld (it is newer still) exactly when no causal table made of the old cut and newer answers contains it
abbrev pub WithheldHere : Table → Table → Table → Type 0
WithheldHere old answers new =
    (k : ℕ) → is_newer old answers k ≡ true
    → (is_newer new answers k ≡ true → (table : Table) → Contained old answers k table → ⊥)
    × (((table : Table) → Contained old answers k table → ⊥) → is_newer new answers k ≡ true)

-- theorem: so it is after every choosing
abbrev pub WithheldExactly : Type 0
WithheldExactly =
    (old answers new : Table) (moved withheld : ℕ) → Chosen old answers new moved withheld → WithheldHere old answers new

-- the old table with the answers at some keys put in
abbrev pub put_in : Table → Table → (ℕ → Bool) → Table
put_in old answers chosen k = cond (chosen k) (answers k) (old k)

-- a set of newer answers, by their keys, fits when putting them in leaves the table causal
pub record Fits (old answers : Table) (chosen : ℕ → Bool) : Type 0 where
  pub all_newer : (k : ℕ) → chosen k ≡ true → is_newer old answers k ≡ true
  pub causal : Causal (put_in old answers chosen)

-- the keys that are in one of two sets
abbrev pub union : (ℕ → Bool) → (ℕ → Bool) → ℕ → Bool
union some others k = some k || others k

-- theorem: two sets that fit make one that fits, which is why there is a largest one
abbrev pub UnionFits : Type 0
UnionFits =
    (old answers : Table) (some others : ℕ → Bool) → Fits old answers some → Fits old answers others → Fits old answers (union some others)

-- the largest set that fits: it fits, and has the key of every newer answer that any causal table contains
pub record LargestFit (old answers : Table) (chosen : ℕ → Bool) : Type 0 where
  pub fits : Fits old answers chosen
  pub largest : (k : ℕ) → is_newer old answers k ≡ true → (table : Table) → Contained old answers k table → chosen k ≡ true
