-- What it is for a version to be carried.
use Rattle.std.specs.Prelude.{ℕ, ◌<◌, ◌≤◌}
use Rattle.stamps.specs.Numbers.{sites}
use Rattle.versions.specs.declared.version.Version.{Version}
use Rattle.causal.specs.Tables.{held_stamp}
use Rattle.store.specs.Meanings.{Meaning}

-- every site shows at the key of a version its stamp or a higher one
abbrev pub ShownEverywhere : Meaning → Version → Type 0
ShownEverywhere m v = (site : ℕ) → site < sites → v.stamp.number ≤ held_stamp (m.shown site v.key)
