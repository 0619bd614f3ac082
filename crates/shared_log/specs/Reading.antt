-- What a log holds and shows, told from the puts and ticks alone.
use Rattle.std.specs.Prelude.{◌≡◌, ℕ, ◌+◌, ◌<◌, ◌≤◌, min, List, [], ◌∷◌, ◌++◌, length, take, drop, Some, None, Option, ◌≢◌}
use Rattle.stamps.specs.Numbers.{keys, sites}
use Rattle.versions.specs.Joins.{In}
use Rattle.versions.specs.declared.version.Version.{Version}
use Rattle.store.specs.Registers.{came_all}
use Rattle.store.specs.Runs.{Deed, did_put, did_tick, Ran, accepted_of}
use Rattle.shared_log.specs.Log.{LogState, log_start, lowest_at, log_kind, shown_at}

-- how many of the accepted puts a site with a stride has read: so many more with each tick, not past the last
abbrev pub read_by : ℕ → List Deed → ℕ
read_by stride [] = 0
read_by stride (did_put site v answer ∷ ds) = read_by stride ds
read_by stride (did_tick ∷ ds) = min (read_by stride ds + stride) (length (accepted_of ds))

-- of a list of versions, the one of the key that no other exceeds and no earlier one equals; none where none is of the key
pub data LatestOf (key : ℕ) (vs : List Version) (found : Option Version) : Type 0 where
  none_of_it : ((v : Version) → In v vs → v.key ≢ key) → found ≡ None → LatestOf key vs found
  one_of_it :
      (v : Version) (earlier later : List Version) → vs ≡ earlier ++ v ∷ later → v.key ≡ key
      → ((w : Version) → In w earlier → w.key ≡ key → w.stamp.number < v.stamp.number)
      → ((w : Version) → In w later → w.key ≡ key → w.stamp.number ≤ v.stamp.number)
      → found ≡ Some v → LatestOf key vs found

-- the base and the tail are the accepted puts in order, and each site shows of what it has read the latest of each key
pub record LogTellsThePuts (strides : ℕ → ℕ) (ds : List Deed) (s : LogState) : Type 0 where
  -- so many of the accepted puts have gone into the base
  pub gone : ℕ
  pub gone_within : gone ≤ length (accepted_of ds)
  -- those that every site has read, and no others
  pub gone_is_the_lowest : gone ≡ lowest_at (λ site. read_by (strides site) ds)
  -- the base has them, in order, by the register rule
  pub base_has_them : (key : ℕ) → s.base key ≡ came_all (λ k. None) (take gone (accepted_of ds)) key
  -- the tail has the others, in order
  pub tail_has_the_others : s.tail ≡ drop gone (accepted_of ds)
  -- each site has read a prefix of the accepted puts, which grows by its stride with each tick
  pub reads_a_prefix : (site : ℕ) → site < sites → gone + s.position site ≡ read_by (strides site) ds
  -- and shows of it the version of the key that no other exceeds and no earlier one equals
  pub shows_the_latest :
      (site key : ℕ) → site < sites → key < keys → LatestOf key (take (read_by (strides site) ds) (accepted_of ds)) (shown_at s site key)

-- theorem: so it is after any puts and ticks from new
abbrev pub LogLaw : Type 0
LogLaw = (strides : ℕ → ℕ) (ds : List Deed) (s : LogState) → Ran log_kind (log_start strides) ds s → LogTellsThePuts strides ds s
