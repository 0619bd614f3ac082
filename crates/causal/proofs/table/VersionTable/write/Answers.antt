use Rattle.std.proofs.Common.{◌≡◌, ℕ, ◌<◌, ◌≢◌, true, Option, set, length, ⊎_elim, arith, rules}
use Rattle.std.proofs.lemmas.Bool.{cases_eq}
use Rattle.std.proofs.lemmas.Grind.{common_steps}
use Rattle.std.proofs.lemmas.List.{get_or-set_same, get_or-set_other}
use Rattle.stamps.specs.Numbers.{keys}
use Rattle.versions.specs.Versions.{is_version}
use Rattle.versions.specs.declared.version.Version.{Version}
use Rattle.causal.specs.Tables.{table_of, IsPlaced}
use Rattle.causal.specs.declared.table.VersionTable.{VersionTable}
use Rattle.causal.proofs.table.VersionTable.write.Goals as goal

-- a table of versions of their keys with one place written so is one still
written_placed : (t : VersionTable) (i : ℕ) (x : Option Version) → i < keys → IsPlaced i x → (k : ℕ) → IsPlaced k (table_of (set t.places i x) k)
written_placed t i x within placed k v e = ⊎_elim here there (cases_eq k i)
  where
    here : k ≡ i → (is_version v ≡ true) × (v.key ≡ k)
    here same =
        let inside : i < length t.places = omega (arith, t.sized) in
        grind (arith, common_steps, get_or-set_same, placed v)

    there : k ≢ i → (is_version v ≡ true) × (v.key ≡ k)
    there ne = grind (arith, common_steps, get_or-set_other, t.versions k v, t.keyed k v)

pub invariant_of-self : goal.invariant_of-self
invariant_of-self c =
    let placed = written_placed c.args.self.now c.args.key c.args.found.now c.place.ensures.below c.requires.placed in
    rw c.place.ensures.place
    (record { sized = search rules; versions = λ k v e. (placed k v e).0; keyed = λ k v e. (placed k v e).1 })
