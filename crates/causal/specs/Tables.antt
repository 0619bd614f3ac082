-- Tables of versions by key, and what makes one causal.
use Rattle.std.specs.Prelude.{◌≡◌, ℕ, ◌≤◌, true, cond, List, Some, None, Option, ◌==◌, slice_index_or}
use Rattle.versions.specs.Rows.{row_of, Covers}
use Rattle.versions.specs.Versions.{is_version}
use Rattle.versions.specs.declared.row.Row.{Row}
use Rattle.versions.specs.declared.version.Version.{Version}

-- a table has for each key one version, or none
abbrev pub Table : Type 0
Table = ℕ → Option Version

-- the table that an array of places makes
abbrev pub table_of : List (Option Version) → Table
table_of places k = slice_index_or places k None

-- the number of the stamp of what is held; 0 for none
abbrev pub held_stamp : Option Version → ℕ
held_stamp None = 0
held_stamp (Some v) = v.stamp.number

-- the face of a table is the row of its stamps
abbrev pub face_of : Table → Row
face_of t = row_of (λ k. held_stamp (t k))

-- each record held is a version
abbrev pub HoldsVersions : Table → Type 0
HoldsVersions t = (k : ℕ) (v : Version) → t k ≡ Some v → is_version v ≡ true

-- each version held stands at its own key
abbrev pub Keyed : Table → Type 0
Keyed t = (k : ℕ) (v : Version) → t k ≡ Some v → v.key ≡ k

-- what may stand at a key: a version of that key, or none
abbrev pub IsPlaced : ℕ → Option Version → Type 0
IsPlaced k o = (v : Version) → o ≡ Some v → (is_version v ≡ true) × (v.key ≡ k)

-- a face covers what is held at a key when it covers the row of the version there, if any
abbrev pub CoversHeld : Row → Option Version → Type 0
CoversHeld face held = (v : Version) → held ≡ Some v → Covers face v.row

-- a table is causal when its face covers the row of every version held
abbrev pub Causal : Table → Type 0
Causal t = (k : ℕ) → CoversHeld (face_of t) (t k)

-- the table with a version put in at a key
abbrev pub with_version : Table → ℕ → Version → Table
with_version t key v k = cond (k == key) (Some v) (t k)

-- no stamp of a table falls
abbrev pub NoStampFalls : Table → Table → Type 0
NoStampFalls old new = (k : ℕ) → held_stamp (old k) ≤ held_stamp (new k)
