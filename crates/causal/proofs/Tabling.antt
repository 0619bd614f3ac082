-- Tables of versions: reading them, putting versions in, their faces.
use Rattle.std.proofs.Common.{◌≡◌, ℕ, ◌<◌, ◌≤◌, length, get_or, set, Some, None, Option, sym, ap, ◌∙◌, le_of_eq, arith}
use Rattle.std.proofs.lemmas.List.{get_or_past, length-set}
use Rattle.std.proofs.lemmas.Grind.{common_steps}
use Rattle.std.proofs.lemmas.Bool.Decides.{nat_tests}
use Rattle.stamps.specs.Numbers.{keys}
use Rattle.versions.specs.Rows.{stamp, stamp_at, Covers}
use Rattle.versions.specs.declared.row.Row.{Row}
use Rattle.versions.specs.declared.version.Version.{Version}
use Rattle.versions.specs.Rowing.{stamp_read, stamp_at_row, row_built, row_length, covers_by_keys, covers_trans}
use Rattle.causal.specs.Held.{held_in}
use Rattle.causal.specs.declared.table.VersionTable.{VersionTable}
use Rattle.causal.specs.Tables.{Table, held_stamp, face_of, CoversHeld, Causal, with_version, NoStampFalls}

-- None is no version
pub none_some : (v : Version) → ◌≡◌ {A = Option Version} None (Some v) → ⊥
none_some v e = grind arith

pub some_same : (v w : Version) → ◌≡◌ {A = Option Version} (Some v) (Some w) → v ≡ w
some_same v w e = cc

-- past the keys there is nothing
pub past_held : (t : VersionTable) (k : ℕ) → keys ≤ k → held_in t k ≡ None
past_held t k h = get_or_past t.places k None (omega (arith, t.sized))

-- the face, key by key
pub stamp_at_face : (t : Table) (k : ℕ) → k < keys → stamp_at (face_of t) k ≡ held_stamp (t k)
stamp_at_face t k h = stamp_at_row (λ j. held_stamp (t j)) k h

-- where no stamp falls, the new face covers the old one
pub face_rises : (t new : Table) → NoStampFalls t new → Covers (face_of new) (face_of t)
face_rises t new up = covers_by_keys (face_of new) (face_of t) (λ k h. grind (arith, stamp_at_face))

-- and covers what the old one covered
pub held_rises : (t new : Table) → NoStampFalls t new → (o : Option Version) → CoversHeld (face_of t) o → CoversHeld (face_of new) o
held_rises t new up o old v e = covers_trans (face_of new) (face_of t) v.row (face_rises t new up) (old v e)

-- tables that agree at each key are causal together
pub causal_same : (t new : Table) → ((k : ℕ) → new k ≡ t k) → Causal t → Causal new
causal_same t new same causal k v e =
    let rises = face_rises t new (λ j. le_of_eq (ap held_stamp (sym (same j)))) in
    let covered = causal k v in
    λ j. grind arith

-- a higher version put in leaves no stamp fallen
pub with_rises : (t new : Table) (i : ℕ) (v : Version) → ((k : ℕ) → new k ≡ with_version t i v k) → held_stamp (t i) < v.stamp.number
    → NoStampFalls t new
with_rises t new i v is above k = grind (arith, nat_tests)

-- a version that the face covers and that stands above leaves a causal table causal
pub causal_with : (t new : Table) (i : ℕ) (v : Version) → ((k : ℕ) → new k ≡ with_version t i v k) → held_stamp (t i) < v.stamp.number
    → Covers (face_of t) v.row → Causal t → Causal new
causal_with t new i v is above covered causal k w e j =
    let rises = face_rises t new (with_rises t new i v is above) in
    let others = causal k w in
    grind (arith, nat_tests)

-- reading the array of a face
pub face_read : (face : Row) (t : Table) → face ≡ face_of t → (k : ℕ) → k < keys → (get_or face.stamps k (stamp 0)).number ≡ held_stamp (t k)
face_read face t faced k h = sym (stamp_read face k h) ∙ ap (λ (r : Row). stamp_at r k) faced ∙ stamp_at_face t k h

-- its array has a place for each key
pub face_sized : (face : Row) (t : Table) → face ≡ face_of t → length face.stamps ≡ keys
face_sized face t faced = ap (λ (r : Row). length r.stamps) faced ∙ row_length (λ k. held_stamp (t k))

-- and writing it
pub face_set : (face : Row) (t new : Table) (i : ℕ) (v : Version) → face ≡ face_of t → i < keys → ((k : ℕ) → new k ≡ with_version t i v k)
    → ◌≡◌ {A = Row} (record { stamps = set face.stamps i v.stamp }) (face_of new)
face_set face t new i v faced within put =
    let size = face_sized face t faced in
    row_built (set face.stamps i v.stamp) (λ k. held_stamp (new k)) (length-set face.stamps i v.stamp ∙ size)
    (λ k h. let read = face_read face t faced k h in grind (arith, common_steps, nat_tests))
