-- What a poll layer shows, told from what the store below showed.
use Rattle.std.specs.Prelude.{◌≡◌, ℕ, ◌+◌, ◌*◌, ◌<◌, ◌≤◌, List, ◌∷◌, ◌++◌, None}
use Rattle.stamps.specs.Numbers.{keys, sites}
use Rattle.store.specs.Kinds.{Kind}
use Rattle.store.specs.Runs.{Deed, did_tick, Ran, ticks_of}
use Rattle.poll.specs.Poll.{PollState, poll_start, first_copying, poll_kind}

-- deeds that lead from a state to a state, parted after a tick whose number is a multiple of the period, with fewer ticks
-- than the period since
pub record PartedAtCopy (K : Kind) (start : PollState K) (ds : List Deed) (s : PollState K) : Type 0 where
  pub later : List Deed
  pub earlier : List Deed
  pub there : PollState K
  pub number : ℕ
  pub parted : ds ≡ later ++ did_tick ∷ earlier
  pub led_there : Ran (poll_kind K) start (did_tick ∷ earlier) there
  pub led_on : Ran (poll_kind K) there later s
  pub whole : ticks_of (did_tick ∷ earlier) ≡ number * start.period
  pub since : ticks_of later < start.period

-- after some deeds from new the layer shows what below showed right after the last tick whose number is a multiple of
-- the period, and nothing before the first
pub record ShowsTheLastCopy (K : Kind) (start : PollState K) (ds : List Deed) (s : PollState K) : Type 0 where
  -- nothing before the first
  pub nothing_at_first : ticks_of ds < start.period → (site key : ℕ) → s.snapshot site key ≡ None
  -- from then on there is such a tick
  pub there_is_one : start.period ≤ ticks_of ds → PartedAtCopy K start ds s
  -- and wherever the deeds are so parted, the layer shows what below showed there
  pub the_copy_since :
      (p : PartedAtCopy K start ds s) (site key : ℕ) → site < sites → key < keys
      → s.snapshot site key ≡ (K.means p.there.below).shown site key

-- theorem: so it is after any puts and ticks, over any store below, with any period from 1 on
abbrev pub PollLaw : Kind → Type 0
PollLaw K =
    (below : K.State) (period : ℕ) (ds : List Deed) (s : PollState K) → 1 ≤ period → Ran (poll_kind K) (poll_start K below period) ds s
    → ShowsTheLastCopy K (poll_start K below period) ds s

-- a copying comes after so many ticks: when the countdown has run out, or some periods later
abbrev pub CopiesAfter : ℕ → ℕ → ℕ → Type 0
CopiesAfter countdown period ticks = (j : ℕ) × (ticks ≡ countdown + j * period)

-- of all copyings that come no sooner than so many ticks, this is the first
pub record IsFirstCopying (countdown period ticks first : ℕ) : Type 0 where
  pub copies : CopiesAfter countdown period first
  pub no_sooner : ticks ≤ first
  pub none_before : (other : ℕ) → CopiesAfter countdown period other → ticks ≤ other → first ≤ other

-- theorem: so it is with the one that the wait is counted by
abbrev pub FirstCopyingLaw : Type 0
FirstCopyingLaw = (countdown period ticks : ℕ) → 1 ≤ period → IsFirstCopying countdown period ticks (first_copying countdown period ticks)
