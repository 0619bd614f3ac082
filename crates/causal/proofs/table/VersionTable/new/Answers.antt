use Rattle.std.proofs.Common.{◌≡◌, ℕ, replicate, None, refl, ⊎_elim, arith}
use Rattle.std.proofs.lemmas.Bool.{cases_lt}
use Rattle.std.proofs.lemmas.List.{get_or-replicate, get_or_past}
use Rattle.causal.specs.Tables.{table_of}
use Rattle.causal.proofs.table.VersionTable.new.Goals as goal

-- there is nothing at any key
empty : (k : ℕ) → table_of (replicate 32 None) k ≡ None
empty k = ⊎_elim (get_or-replicate 32 k None None) (get_or_past (replicate 32 None) k None) (cases_lt k 32)

pub invariant_of-result : goal.invariant_of-result
invariant_of-result c = record {
  sized = refl;
  versions = λ k v e. let none = empty k in grind arith;
  keyed = λ k v e. let none = empty k in grind arith;
}

pub returns : goal.returns
returns c = empty
