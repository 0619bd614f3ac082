-- The meaning of a store: what anyone may know of it, whatever its make.
use Rattle.std.specs.Prelude.{◌≡◌, ℕ, ◌-◌, ◌<◌, ◌≤◌, max, true, ◌⊎◌, List, [], Some, None, Option, ◌≢◌}
use Rattle.stamps.specs.Numbers.{keys, sites}
use Rattle.stamps.specs.declared.refusal.Bar.{Bar}
use Rattle.versions.specs.Joins.{In, SameMembers}
use Rattle.versions.specs.Versions.{is_version}
use Rattle.versions.specs.declared.version.Version.{Version}
use Rattle.causal.specs.Tables.{held_stamp}

-- what a store means
pub record Meaning : Type 0 where
  -- the versions held anywhere in it
  pub kept : List Version
  -- for each site and key the version shown there, or none
  pub shown : ℕ → ℕ → Option Version
  -- for each key the highest stamp that it has been given, or 0
  pub peak : ℕ → ℕ
  -- within how many ticks it shows the peaks everywhere if nothing is put; it is settled when this is 0
  pub wait : ℕ
  -- none, or what a put would now be refused with
  pub bar : Option Bar

-- a site and a key are in range
abbrev pub InAskRange : ℕ → ℕ → Type 0
InAskRange site key = (site < sites) × (key < keys)

-- a put is in range when its site is, and what is put is a version
abbrev pub InPutRange : ℕ → Version → Type 0
InPutRange site v = (site < sites) × (is_version v ≡ true)

-- what holds of the meaning of a store at any time
pub record Lawful (m : Meaning) : Type 0 where
  -- each kept record is a version
  pub kept_are_versions : (v : Version) → In v m.kept → is_version v ≡ true
  -- what is shown at a site and key is kept
  pub shown_is_kept : (site key : ℕ) (v : Version) → InAskRange site key → m.shown site key ≡ Some v → In v m.kept
  -- and is of that key
  pub shown_is_keyed : (site key : ℕ) (v : Version) → InAskRange site key → m.shown site key ≡ Some v → v.key ≡ key
  -- while wait is 0 the stamp shown at every site is the peak of the key
  pub settled_shows_peaks : m.wait ≡ 0 → (site key : ℕ) → InAskRange site key → held_stamp (m.shown site key) ≡ m.peak key
  -- while wait is 0 there is no bar
  pub settled_is_unbarred : m.wait ≡ 0 → m.bar ≡ None

-- no part of the meaning is altered
pub record Unaltered (m n : Meaning) : Type 0 where
  pub same_kept : SameMembers m.kept n.kept
  pub same_shown : (site key : ℕ) → InAskRange site key → n.shown site key ≡ m.shown site key
  pub same_peaks : (key : ℕ) → key < keys → n.peak key ≡ m.peak key
  pub same_wait : n.wait ≡ m.wait
  pub same_bar : n.bar ≡ m.bar

-- what an accepted put may leave
pub record Took (m : Meaning) (v : Version) (n : Meaning) : Type 0 where
  -- only what was kept before and the version put is kept
  pub kept_or_put : (w : Version) → In w n.kept → (w ≡ v) ⊎ In w m.kept
  -- the peak of its key becomes the higher of the old peak and its stamp
  pub own_peak : n.peak v.key ≡ max (m.peak v.key) v.stamp.number
  -- other peaks hold
  pub other_peaks : (key : ℕ) → key < keys → (key ≢ v.key) → n.peak key ≡ m.peak key

-- what a tick may leave
pub record Passed (m n : Meaning) : Type 0 where
  -- only what was kept before is kept
  pub kept_before : (w : Version) → In w n.kept → In w m.kept
  -- the peaks hold
  pub peaks_hold : (key : ℕ) → key < keys → n.peak key ≡ m.peak key
  -- wait falls by at least one, or remains 0
  pub wait_falls : n.wait ≤ m.wait - 1

-- the meaning of a new store: nothing kept, peaks 0 and wait 0
pub record New (m : Meaning) : Type 0 where
  pub nothing_kept : m.kept ≡ []
  pub no_peaks : (key : ℕ) → key < keys → m.peak key ≡ 0
  pub no_wait : m.wait ≡ 0
