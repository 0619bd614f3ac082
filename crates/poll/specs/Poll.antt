-- The poll layer: it shows a snapshot of the store below, copied once in each period.
use Rattle.std.specs.Prelude.{◌≡◌, ℕ, ◌+◌, ◌-◌, ◌*◌, ◌≤◌, Bool, true, cond, ◌&&◌, ◌++◌, Some, None, Ok, Err, Option, ◌==◌, nat_lt}
use Rattle.stamps.specs.Keys.{every_below}
use Rattle.stamps.specs.Numbers.{keys, sites}
use Rattle.stamps.specs.declared.refusal.Bar.{Bar}
use Rattle.versions.specs.declared.version.Version.{Version}
use Rattle.causal.specs.Tables.{held_stamp}
use Rattle.store.specs.Kinds.{Kind}
use Rattle.store.specs.Meanings.{Meaning}
use Rattle.store.specs.Puts.{PutAnswer, bar_passed_up, refusal_passed_up}
use Rattle.store.specs.Registers.{is_placed, Sites, all_held_at}
use Rattle.store.specs.Waits.{divided_up}
use Rattle.poll.specs.Numbers.{period_limit}

-- a poll layer over a make of store, at a moment
pub record PollState (K : Kind) : Type 0 where
  -- the store below
  pub below : K.State
  -- what was copied last from each site and key
  pub snapshot : Sites
  -- how many ticks lie between two copyings
  pub period : ℕ
  -- how many ticks are left to the next copying
  pub countdown : ℕ

-- a new layer: an empty snapshot, and the countdown starts at the period
abbrev pub poll_start : (K : Kind) → K.State → ℕ → PollState K
poll_start K below period = record { below = below; snapshot = λ site key. None; period = period; countdown = period }

-- there is a bar above when there is one below
abbrev pub passed_up : Option Bar → Option Bar
passed_up None = None
passed_up (Some b) = Some (bar_passed_up b)

-- the answer to a put as the layer above gives it
abbrev pub answer_passed_up : PutAnswer → PutAnswer
answer_passed_up (Ok done) = Ok done
answer_passed_up (Err e) = Err (refusal_passed_up e)

-- a copy of what is shown at every site and key
abbrev pub copy_of : Sites → Sites
copy_of shown site key = cond (nat_lt site sites && nat_lt key keys) (shown site key) None

-- what a put leaves: it goes below, and all else stays
abbrev pub after_put : (K : Kind) → PollState K → K.State → PollState K
after_put K s below = record { below = below; snapshot = s.snapshot; period = s.period; countdown = s.countdown }

-- what a tick leaves that copies: every site and key is copied and the countdown starts again
abbrev pub after_copying : (K : Kind) → PollState K → K.State → PollState K
after_copying K s below = record { below = below; snapshot = copy_of (K.means below).shown; period = s.period; countdown = s.period }

-- what a tick leaves that does not: the countdown is one lower
abbrev pub after_counting : (K : Kind) → PollState K → K.State → PollState K
after_counting K s below = record { below = below; snapshot = s.snapshot; period = s.period; countdown = s.countdown - 1 }

-- what a tick leaves once the store below has ticked: it lowers the countdown, and copies at 0
abbrev pub after_tick : (K : Kind) → PollState K → K.State → PollState K
after_tick K s below = cond (s.countdown - 1 == 0) (after_copying K s below) (after_counting K s below)

-- the stamp of the one equals that of the other at a site and key
abbrev pub same_stamp : Sites → Sites → ℕ → ℕ → Bool
same_stamp a b site key = held_stamp (a site key) == held_stamp (b site key)

-- so it is at every key of a site
abbrev pub same_stamps_at : Sites → Sites → ℕ → Bool
same_stamps_at a b site = every_below keys (same_stamp a b site)

-- all stamps of the one equal those of the other
abbrev pub same_stamps : Sites → Sites → Bool
same_stamps a b = every_below sites (same_stamps_at a b)

-- the ticks to the first copying that comes no sooner than so many ticks: copyings come when the countdown has run
-- out, and a period after each
abbrev pub first_copying : ℕ → ℕ → ℕ → ℕ
first_copying countdown period ticks = countdown + divided_up (ticks - countdown) period * period

-- the layer is settled when below is settled and all snapshot stamps equal those shown below
abbrev pub poll_settled : (K : Kind) → PollState K → Bool
poll_settled K s = (K.means s.below).wait == 0 && same_stamps s.snapshot (K.means s.below).shown

-- wait is 0 when the layer is settled, else the number of ticks to the first copying that comes no sooner than below's
-- wait
abbrev pub poll_wait : (K : Kind) → PollState K → ℕ
poll_wait K s = cond (poll_settled K s) 0 (first_copying s.countdown s.period (K.means s.below).wait)

-- shown is the snapshot, kept is below's and the snapshot, peak and bar are below's, the bar one deeper
abbrev pub poll_means : (K : Kind) → PollState K → Meaning
poll_means K s =
    record {
      kept = (K.means s.below).kept ++ all_held_at s.snapshot;
      shown = s.snapshot;
      peak = (K.means s.below).peak;
      wait = poll_wait K s;
      bar = passed_up (K.means s.below).bar;
    }

-- what holds of a poll layer at any time
pub record PollGood (K : Kind) (s : PollState K) : Type 0 where
  pub below_good : K.good s.below
  -- the snapshot holds at each key a version of it, or none
  pub placed : (site key : ℕ) → is_placed key (s.snapshot site key) ≡ true
  -- 1 to the period ticks are left to the next copying
  pub countdown_least : 1 ≤ s.countdown
  pub countdown_most : s.countdown ≤ s.period
  -- the period is at most 8 ticks
  pub period_most : s.period ≤ period_limit

-- what a put may answer and leave: what it may below, with the answer passed up
pub record PollStored (K : Kind) (s : PollState K) (site : ℕ) (v : Version) (answer : PutAnswer) (t : PollState K) : Type 0 where
  pub answer_below : PutAnswer
  pub below_after : K.State
  pub stored_below : K.stored s.below site v answer_below below_after
  pub answers : answer ≡ answer_passed_up answer_below
  pub leaves : t ≡ after_put K s below_after

-- what a tick may leave: below ticks first
pub record PollTicked (K : Kind) (s t : PollState K) : Type 0 where
  pub below_after : K.State
  pub ticked_below : K.ticked s.below below_after
  pub leaves : t ≡ after_tick K s below_after

-- the make of a poll layer over a make of store
abbrev pub poll_kind : Kind → Kind
poll_kind K =
    record { State = PollState K; good = PollGood K; means = poll_means K; stored = PollStored K; ticked = PollTicked K }
