-- The log: a base register for each key, a tail of versions, and for each site how far it has read the tail.
use Rattle.std.specs.Prelude.{◌≡◌, ℕ, zero, suc, ◌+◌, ◌-◌, ◌<◌, ◌≤◌, min, Bool, true, cond, List, [], ◌∷◌, ◌++◌, length, take, drop, Some, None, Option, nat_le}
use Rattle.std.specs.List.{list_all}
use Rattle.stamps.specs.Keys.{highest_below}
use Rattle.stamps.specs.Numbers.{sites}
use Rattle.stamps.specs.declared.refusal.Bar.{Bar}
use Rattle.stamps.specs.declared.refusal.Refusal.TheVariants.{TailFull}
use Rattle.versions.specs.Versions.{is_version}
use Rattle.versions.specs.declared.version.Version.{Version}
use Rattle.causal.specs.Tables.{Table}
use Rattle.store.specs.Kinds.{Kind}
use Rattle.store.specs.Meanings.{Meaning}
use Rattle.store.specs.Puts.{PutLeaves}
use Rattle.store.specs.Registers.{is_placed, came_all, all_held, highest_of_key}
use Rattle.store.specs.Waits.{divided_up}
use Rattle.shared_log.specs.Numbers.{stride_limit, tail_limit}

-- a log at a moment
pub record LogState : Type 0 where
  -- the base register of each key
  pub base : Table
  -- the versions put since, in order
  pub tail : List Version
  -- how many versions of the tail each site has read
  pub position : ℕ → ℕ
  -- how many versions each site reads with a tick
  pub stride : ℕ → ℕ

-- a new log: an empty base, an empty tail, every position 0
abbrev pub log_start : (ℕ → ℕ) → LogState
log_start strides = record { base = λ key. None; tail = []; position = λ site. 0; stride = strides }

-- what an accepted put leaves: its version stands at the tail's end
abbrev pub after_put : LogState → Version → LogState
after_put s v = record { base = s.base; tail = s.tail ++ v ∷ []; position = s.position; stride = s.stride }

-- a position moves on by its site's stride, not past the end
abbrev pub moved_on : LogState → ℕ → ℕ
moved_on s site = min (s.position site + s.stride site) (length s.tail)

-- the lowest of the values at the numbers up to n
unfoldable pub lowest_up_to : ℕ → (ℕ → ℕ) → ℕ
lowest_up_to zero f = f zero
lowest_up_to (suc n) f = min (f (suc n)) (lowest_up_to n f)

-- the lowest value at any site
abbrev pub lowest_at : (ℕ → ℕ) → ℕ
lowest_at f = lowest_up_to (sites - 1) f

-- what a tick leaves: each position moves on; then as many first versions as the lowest position counts go into the
-- base, in order, by the register rule, and leave the tail, and the positions drop by that count
abbrev pub after_tick : LogState → LogState
after_tick s =
    record {
      base = came_all s.base (take (lowest_at (moved_on s)) s.tail);
      tail = drop (lowest_at (moved_on s)) s.tail;
      position = λ site. moved_on s site - lowest_at (moved_on s);
      stride = s.stride;
    }

-- shown at a site: what the registers hold after the versions that it has read, so the highest stamp among the base
-- and the tail before its position, the earlier on a tie
abbrev pub shown_at : LogState → ℕ → Table
shown_at s site = came_all s.base (take (s.position site) s.tail)

-- kept is base and tail
abbrev pub log_kept : LogState → List Version
log_kept s = all_held s.base ++ s.tail

-- the ticks that a site needs to read the whole tail: the unread versions divided by its stride, rounded up
abbrev pub wait_at : LogState → ℕ → ℕ
wait_at s site = divided_up (length s.tail - s.position site) (s.stride site)

-- the bar is 33 when the tail has 64
abbrev pub tail_bar : List Version → Option Bar
tail_bar vs = cond (nat_le tail_limit (length vs)) (Some (record { refusal = TailFull; depth = 0 })) None

-- peak is the highest stamp in base and tail, wait the most that any site needs
abbrev pub log_means : LogState → Meaning
log_means s =
    record {
      kept = log_kept s;
      shown = shown_at s;
      peak = λ key. highest_of_key key (log_kept s);
      wait = highest_below sites (wait_at s);
      bar = tail_bar s.tail;
    }

-- every record of a list is a version
abbrev pub are_versions : List Version → Bool
are_versions = list_all is_version

-- what holds of a log at any time
pub record LogGood (s : LogState) : Type 0 where
  -- each base register holds a version of its key, or none
  pub placed : (key : ℕ) → is_placed key (s.base key) ≡ true
  -- the tail holds versions
  pub tail_fits : are_versions s.tail ≡ true
  -- at most 64
  pub few : length s.tail ≤ tail_limit
  -- no site has read past the end
  pub within_tail : (site : ℕ) → s.position site ≤ length s.tail
  -- what all sites have read has left the tail
  pub lowest_is_0 : lowest_at s.position ≡ 0
  -- strides are 1 to 8
  pub stride_least : (site : ℕ) → site < sites → 1 ≤ s.stride site
  pub stride_most : (site : ℕ) → s.stride site ≤ stride_limit

-- the make of a log
abbrev pub log_kind : Kind
log_kind =
    record {
      State = LogState;
      good = LogGood;
      means = log_means;
      stored = λ s site v answer t. PutLeaves (tail_bar s.tail) s (after_put s v) site v answer t;
      ticked = λ s t. t ≡ after_tick s;
    }
