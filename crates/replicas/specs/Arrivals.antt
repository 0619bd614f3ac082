-- What the registers of replicas hold, told from the puts and ticks alone.
use Rattle.std.specs.Prelude.{◌≡◌, ℕ, ◌<◌, ◌≤◌, List, Some}
use Rattle.stamps.specs.Numbers.{keys, sites}
use Rattle.versions.specs.declared.version.Version.{Version}
use Rattle.causal.specs.Tables.{held_stamp}
use Rattle.store.specs.Runs.{Deed, Ran, PutAgo}
use Rattle.replicas.specs.Lines.{line_time}
use Rattle.replicas.specs.Replicas.{ReplicasState, replicas_start, replicas_kind}

-- a version was put at a site, or delivered there: it was put somewhere at least as many ticks ago as the line takes
abbrev pub HasReached : List ℕ → List Deed → ℕ → Version → Type 0
HasReached ts ds site v = (from ticks : ℕ) × PutAgo ds from v ticks × (line_time ts from site ≤ ticks)

-- a site's register has the highest stamp of its key among what was put there or delivered there
pub record RegistersHoldTheHighest (ts : List ℕ) (ds : List Deed) (s : ReplicasState) : Type 0 where
  -- what it holds has come to the site, and is of the key
  pub holds_what_came :
      (site key : ℕ) (v : Version) → site < sites → key < keys → s.registers site key ≡ Some v → HasReached ts ds site v × (v.key ≡ key)
  -- nothing of the key that has come to the site has a higher stamp
  pub holds_the_highest :
      (site : ℕ) (v : Version) → site < sites → HasReached ts ds site v → v.stamp.number ≤ held_stamp (s.registers site v.key)

-- theorem: so it is after any puts and ticks from new
abbrev pub ReplicasLaw : Type 0
ReplicasLaw = (ts : List ℕ) (ds : List Deed) (s : ReplicasState) → Ran replicas_kind (replicas_start ts) ds s → RegistersHoldTheHighest ts ds s
