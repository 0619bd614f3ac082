-- The log keeps the laws of every store.
use Rattle.std.specs.Prelude.{◌≡◌, ℕ, ◌-◌, ◌<◌, ◌≤◌, max, true, ◌⊎◌, List, [], ◌∷◌, ◌++◌, length, take, drop, None, refl}
use Rattle.std.proofs.Common.{inl, inr, ⊎_elim, sym, ap, ◌∙◌, arith}
use Rattle.std.proofs.lemmas.List.{append-nil, length-drop, length_push, take_all, take-append-drop}
use Rattle.std.proofs.lemmas.Bool.Decides.{nat_tests}
use Rattle.stamps.specs.Numbers.{keys, sites}
use Rattle.stamps.proofs.Counting.{highest_bound, highest_least}
use Rattle.versions.specs.Joins.{In}
use Rattle.versions.specs.Versions.{is_version}
use Rattle.versions.specs.declared.version.Version.{Version}
use Rattle.causal.specs.Tables.{Table, held_stamp}
use Rattle.store.specs.Kinds.{Sound, EachStepHasOneOutcome, RefusedKeeps}
use Rattle.store.specs.Meanings.{Lawful, Took, Passed, New}
use Rattle.store.specs.Registers.{came_all, all_held, highest_of_key}
use Rattle.store.specs.Waits.{divided_up}
use Rattle.store.proofs.Keeping.{in_left, in_right, in_either, in_held, from_held, held_none, highest_append}
use Rattle.store.proofs.Making.{put_means, put_keeps, one_put, refused_left}
use Rattle.store.proofs.Registering.{placed_version, placed_key}
use Rattle.store.proofs.Rounding.{up_reaches, up_least}
use Rattle.shared_log.specs.Log.{LogState, LogGood, log_start, after_put, after_tick, moved_on, lowest_at, log_means, log_kept, log_kind, tail_bar, wait_at}
use Rattle.shared_log.specs.Numbers.{stride_limit, tail_limit}
use Rattle.shared_log.specs.Coming.{came_stamp, came_one, came_all_placed, held_highest}
use Rattle.shared_log.specs.Positioning.{lowest_at_most, lowest_at_reached, lowest_at_less}
use Rattle.shared_log.specs.Tailing.{versions_in, versions_push, versions_parts, in_take, in_drop}

-- there is no bar exactly when the tail is not full
pub unbarred : (vs : List Version) → length vs < tail_limit → tail_bar vs ≡ None
unbarred vs few = grind (arith, nat_tests)

pub room : (vs : List Version) → tail_bar vs ≡ None → length vs < tail_limit
room vs none = grind (arith, nat_tests)

-- once all have moved on, the lowest position is not past the end
pub low_within : (s : LogState) → lowest_at (moved_on s) ≤ length s.tail
low_within s = omega (arith, lowest_at_most (moved_on s) 0 (omega arith))

-- what holds of a log at any time holds at the start
pub start_good : (strides : ℕ → ℕ) → ((site : ℕ) → site < sites → 1 ≤ strides site) → ((site : ℕ) → strides site ≤ stride_limit) → LogGood (log_start strides)
start_good strides least most =
    record {
      placed = λ key. refl;
      tail_fits = refl;
      few = omega arith;
      within_tail = λ site. omega arith;
      lowest_is_0 = sym (lowest_at_reached (λ site. 0)).2;
      stride_least = least;
      stride_most = most;
    }

-- is kept by a put
pub put_good : (s : LogState) (v : Version) → LogGood s → is_version v ≡ true → tail_bar s.tail ≡ None → LogGood (after_put s v)
put_good s v g is none =
    record {
      placed = g.placed;
      tail_fits = versions_push s.tail v g.tail_fits is;
      few = omega (arith, room s.tail none, length_push s.tail v);
      within_tail = λ site. omega (arith, g.within_tail site, length_push s.tail v);
      lowest_is_0 = g.lowest_is_0;
      stride_least = g.stride_least;
      stride_most = g.stride_most;
    }

-- and by a tick
pub tick_good : (s : LogState) → LogGood s → LogGood (after_tick s)
tick_good s g =
    let low = lowest_at (moved_on s) in
    let left = length-drop low s.tail in
    record {
      placed = came_all_placed s.base (take low s.tail) g.placed (versions_parts low s.tail g.tail_fits).0;
      tail_fits = (versions_parts low s.tail g.tail_fits).1;
      few = omega (arith, left, g.few);
      within_tail = λ site. omega (arith, left);
      lowest_is_0 = lowest_at_less low (moved_on s) ∙ omega arith;
      stride_least = g.stride_least;
      stride_most = g.stride_most;
    }

-- wait is 0 exactly when the tail is empty
pub settled_empty : (s : LogState) → LogGood s → (log_means s).wait ≡ 0 → length s.tail ≡ 0
settled_empty s g none =
    let r = lowest_at_reached s.position in
    let site = r.0 in
    let reaches = up_reaches (length s.tail - s.position site) (s.stride site) (g.stride_least site r.1) in
    grind (arith, g.lowest_is_0, r.2, highest_bound sites (wait_at s) site r.1, reaches)

pub empty_settled : (s : LogState) → LogGood s → length s.tail ≡ 0 → (log_means s).wait ≡ 0
empty_settled s g empty =
    let each = highest_least sites (wait_at s) 0
    (λ site h. up_least (length s.tail - s.position site) (s.stride site) 0 (omega (arith, g.stride_least site h)) (omega (arith, empty))) in
    omega (arith, each)

-- the peak of a key, from the base register and the tail
peak_is : (s : LogState) (key : ℕ) → LogGood s → key < keys → highest_of_key key (log_kept s) ≡ max (held_stamp (s.base key)) (highest_of_key key s.tail)
peak_is s key g h = grind (arith, highest_append, held_highest s.base key h g.placed)

-- what a log means is lawful
lawful : (s : LogState) → LogGood s → Lawful (log_means s)
lawful s g =
    record {
      kept_are_versions =
          λ v i. ⊎_elim (λ l. let r = from_held keys s.base v l in placed_version r.0 (s.base r.0) v (g.placed r.0) r.2)
          (λ r. versions_in s.tail g.tail_fits v r) (in_either v (all_held s.base) s.tail i);
      shown_is_kept =
          λ site key v h e. ⊎_elim (λ i. in_right v (all_held s.base) s.tail (in_take v (s.position site) s.tail i))
          (λ held. in_left v (all_held s.base) s.tail (in_held keys s.base key v h.1 held)) (came_one s.base (take (s.position site) s.tail) key v e);
      shown_is_keyed =
          λ site key v h e. placed_key key (came_all s.base (take (s.position site) s.tail) key) v
          (came_all_placed s.base (take (s.position site) s.tail) g.placed (versions_parts (s.position site) s.tail g.tail_fits).0 key) e;
      settled_shows_peaks = λ none site key h. let empty = settled_empty s g none in
          came_stamp s.base (take (s.position site) s.tail) key
          ∙ ap (λ (vs : List Version). max (held_stamp (s.base key)) (highest_of_key key vs)) (take_all (s.position site) s.tail (omega (arith, empty)))
          ∙ sym (peak_is s key g h.1);
      settled_is_unbarred = λ none. unbarred s.tail (omega (arith, settled_empty s g none));
    }

-- what an accepted put does to the meaning
took : (s : LogState) (v : Version) → Took (log_means s) v (log_means (after_put s v))
took s v =
    record {
      kept_or_put =
          λ w i. ⊎_elim (λ l. inr (in_left w (all_held s.base) s.tail l))
          (λ r. ⊎_elim (λ t. inr (in_right w (all_held s.base) s.tail t)) (only w) (in_either w s.tail (v ∷ []) r))
          (in_either w (all_held s.base) (s.tail ++ v ∷ []) i);
      own_peak = grind (arith, nat_tests, highest_append);
      other_peaks = λ key h ne. grind (arith, nat_tests, highest_append);
    }
  where
    only : (w : Version) → In w (v ∷ []) → (w ≡ v) ⊎ In w (log_kept s)
    only w (inl e) = inl e
    only w (inr i) = absurd i

-- a site's wait falls by one, or remains 0
one_less : (unread stride : ℕ) → 1 ≤ stride → divided_up (unread - stride) stride ≤ divided_up unread stride - 1
one_less unread stride h =
    up_least (unread - stride) stride (divided_up unread stride - 1) h (grind (arith, up_reaches unread stride h))

wait_less : (s : LogState) → LogGood s → (site : ℕ) → site < sites → wait_at (after_tick s) site ≤ wait_at s site - 1
wait_less s g site h =
    let low = lowest_at (moved_on s) in
    let unread : length (drop low s.tail) - (moved_on s site - low) ≡ (length s.tail - s.position site) - s.stride site =
    omega (arith, length-drop low s.tail, lowest_at_most (moved_on s) site h, g.within_tail site) in
    rw unread (one_less (length s.tail - s.position site) (s.stride site) (g.stride_least site h))

-- what a tick does to the meaning
passed : (s : LogState) → LogGood s → Passed (log_means s) (log_means (after_tick s))
passed s g =
    record {
      kept_before =
          λ w i. ⊎_elim (before w) (λ r. in_right w (all_held s.base) s.tail (in_drop w low s.tail r)) (in_either w (all_held new) (drop low s.tail) i);
      peaks_hold =
          λ key h. grind (
            arith,
            peak_is s key g h,
            peak_is (after_tick s) key (tick_good s g) h,
            came_stamp,
            highest_append,
            ap (highest_of_key key) (take-append-drop low s.tail),
          );
      wait_falls =
          highest_least sites (wait_at (after_tick s)) ((log_means s).wait - 1)
          (λ site h. omega (arith, wait_less s g site h, highest_bound sites (wait_at s) site h));
    }
  where
    low : ℕ
    low = lowest_at (moved_on s)

    new : Table
    new = came_all s.base (take low s.tail)

    before : (w : Version) → In w (all_held new) → In w (log_kept s)
    before w i =
        let r = from_held keys new w i in
        ⊎_elim (λ j. in_right w (all_held s.base) s.tail (in_take w low s.tail j))
        (λ held. in_left w (all_held s.base) s.tail (in_held keys s.base r.0 w r.1 held)) (came_one s.base (take low s.tail) r.0 w r.2)

pub log_sound : Sound log_kind
log_sound =
    record {
      lawful = lawful;
      put_keeps =
          λ s site v answer t g put. put_keeps LogGood (tail_bar s.tail) s (after_put s v) site v answer t g put (λ within none. put_good s v g within.1 none);
      put_means = λ s site v answer t g put. put_means log_means s (after_put s v) site v answer t put (λ within none. took s v);
      tick_keeps = λ s t g e. rw e (tick_good s g);
      tick_means = λ s t g e. rw e (passed s g);
    }

pub log_one : EachStepHasOneOutcome log_kind
log_one =
    record { one_put = λ s site v. one_put (tail_bar s.tail) s (after_put s v) site v; one_tick = λ s t t' e e'. e ∙ sym e' }

pub log_left : RefusedKeeps log_kind
log_left s site v e t put = refused_left (tail_bar s.tail) s (after_put s v) site v e t put

-- the start is new, whatever the strides
pub log_new : (strides : ℕ → ℕ) → ((site : ℕ) → site < sites → 1 ≤ strides site) → New (log_means (log_start strides))
log_new strides least =
    let kept : log_kept (log_start strides) ≡ [] = append-nil (all_held (λ key. None)) ∙ held_none keys (λ key. None) (λ key. refl) in
    record {
      nothing_kept = kept;
      no_peaks = λ key h. ap (highest_of_key key) kept;
      no_wait =
          let each = highest_least sites (wait_at (log_start strides)) 0 (λ site h. up_least 0 (strides site) 0 (omega (arith, least site h)) (omega arith)) in
          omega (arith, each);
    }
