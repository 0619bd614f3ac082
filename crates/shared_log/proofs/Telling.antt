-- What a log holds and shows, told from the puts and ticks.
use Rattle.std.proofs.Common.{◌≡◌, ℕ, ◌+◌, ◌-◌, ◌<◌, ◌≤◌, min, true, ◌⊎◌, List, [], ◌∷◌, ◌++◌, length, take, drop, Some, None, Option, sym, refl, ap, ◌∙◌, subst, inl, inr, ⊎_elim, append_assoc, arith, take-add}
use Rattle.std.proofs.lemmas.List.{append-nil, length-drop, length_push, take-append-le, drop-append-le, drop-drop}
use Rattle.std.proofs.lemmas.Bool.{cases_eq, cases_lt}
use Rattle.stamps.specs.Numbers.{sites}
use Rattle.stamps.proofs.Stamping.{counter_none, counter_decides, stamp_counter}
use Rattle.versions.specs.Joins.{In}
use Rattle.versions.specs.Versions.{is_version}
use Rattle.versions.specs.declared.version.Version.{Version}
use Rattle.versions.proofs.Versioning.{parts_of_version}
use Rattle.causal.specs.Tables.{Table, held_stamp}
use Rattle.store.specs.Puts.{PutAnswer, PutLeaves, refused_unfit, refused_barred, put_accepted}
use Rattle.store.specs.Registers.{came_to, came_all}
use Rattle.store.specs.Runs.{Deed, did_put, did_tick, Ran, accepted_of, accepted_by}
use Rattle.store.proofs.Keeping.{in_either}
use Rattle.store.proofs.Registering.{taken_higher, taken_lower, came_here, came_there}
use Rattle.shared_log.specs.Log.{LogState, log_start, after_put, after_tick, moved_on, lowest_at, log_kind, tail_bar, are_versions}
use Rattle.shared_log.specs.Reading.{read_by, LatestOf, none_of_it, one_of_it, LogLaw}
use Rattle.shared_log.specs.Coming.{came_append}
use Rattle.shared_log.specs.Logging.{low_within}
use Rattle.shared_log.specs.Positioning.{lowest_at_most, lowest_at_reached, lowest_at_less}
use Rattle.shared_log.specs.Tailing.{versions_in, versions_push, versions_parts}

-- the stamp of a version is above 0
above_none : (v : Version) → is_version v ≡ true → 0 < v.stamp.number
above_none v is =
    grind (arith, counter_decides 0 v.stamp.number, counter_none, (stamp_counter v.stamp.number (parts_of_version v is).stamped).0)

-- a member of a list of one
only : (w v : Version) → In w (v ∷ []) → w ≡ v
only w v (inl e) = e
only w v (inr i) = absurd i

-- one version more, of another key
latest_other : (key : ℕ) (vs : List Version) (found : Option Version) (v : Version) → (v.key ≡ key → ⊥) → LatestOf key vs found → LatestOf key (vs ++ v ∷ []) found
latest_other key vs found v ne (none_of_it none e) =
    none_of_it (λ w i at. ⊎_elim (λ l. none w l at) (λ r. ne (sym (ap (λ (x : Version). x.key) (only w v r)) ∙ at)) (in_either w vs (v ∷ []) i)) e
latest_other key vs found v ne (one_of_it w earlier later split at below above e) =
    one_of_it w earlier (later ++ v ∷ []) (ap (λ (xs : List Version). xs ++ v ∷ []) split ∙ append_assoc earlier (w ∷ later) (v ∷ [])) at below
    (λ x i k. ⊎_elim (λ l. above x l k) (λ r. absurd (ne (sym (ap (λ (y : Version). y.key) (only x v r)) ∙ k))) (in_either x later (v ∷ []) i)) e

-- one more of the key that is not higher
latest_lower : (key : ℕ) (vs : List Version) (found : Option Version) (v : Version) → 0 < v.stamp.number → v.stamp.number ≤ held_stamp found
    → LatestOf key vs found → LatestOf key (vs ++ v ∷ []) found
latest_lower key vs found v some down (none_of_it none e) = absurd (omega (arith, some, down, ap held_stamp e))
latest_lower key vs found v some down (one_of_it w earlier later split at below above e) =
    one_of_it w earlier (later ++ v ∷ []) (ap (λ (xs : List Version). xs ++ v ∷ []) split ∙ append_assoc earlier (w ∷ later) (v ∷ [])) at below
    (λ x i k. ⊎_elim (λ l. above x l k) (λ r. omega (arith, down, ap held_stamp e, ap (λ (y : Version). y.stamp.number) (only x v r))) (in_either x later (v ∷ []) i)) e

-- one more of the key that is higher
latest_higher : (key : ℕ) (vs : List Version) (found : Option Version) (v : Version) → v.key ≡ key → held_stamp found < v.stamp.number
    → LatestOf key vs found → LatestOf key (vs ++ v ∷ []) (Some v)
latest_higher key vs found v at up (none_of_it none e) =
    one_of_it v vs [] refl at (λ w i k. absurd (none w i k)) (λ w i k. absurd i) refl
latest_higher key vs found v at up (one_of_it w earlier later split here below above e) =
    one_of_it v vs [] refl at
    (λ x i k. lower x k (in_either x earlier (w ∷ later) (subst (λ (xs : List Version). In x xs) split i))) (λ x i k. absurd i) refl
  where
    after : (x : Version) → x.key ≡ key → In x (w ∷ later) → x.stamp.number ≤ w.stamp.number
    after x k (inl same) = omega (arith, ap (λ (y : Version). y.stamp.number) same)
    after x k (inr i) = above x i k

    lower : (x : Version) → x.key ≡ key → In x earlier ⊎ In x (w ∷ later) → x.stamp.number < v.stamp.number
    lower x k (inl i) = omega (arith, below x i k, up, ap held_stamp e)
    lower x k (inr i) = omega (arith, after x k i, up, ap held_stamp e)

-- one version more that comes to the registers
latest_push : (key : ℕ) (vs : List Version) (t : Table) (v : Version) → 0 < v.stamp.number → LatestOf key vs (t key)
    → LatestOf key (vs ++ v ∷ []) (came_to t v key)
latest_push key vs t v some latest =
    ⊎_elim
    (λ at. ⊎_elim (λ up. rw (came_here t v key at, taken_higher (t key) v up) (latest_higher key vs (t key) v (sym at) up latest))
    (λ down. rw (came_here t v key at, taken_lower (t key) v down) (latest_lower key vs (t key) v some down latest)) (cases_lt (held_stamp (t key)) v.stamp.number))
    (λ ne. rw (came_there t v key ne) (latest_other key vs (t key) v (λ e. ne (sym e)) latest)) (cases_eq key v.key)

-- and any number more
latest_more : (key : ℕ) (vs ws : List Version) (t : Table) → ((v : Version) → In v ws → 0 < v.stamp.number) → LatestOf key vs (t key)
    → LatestOf key (vs ++ ws) (came_all t ws key)
latest_more key vs [] t some latest = rw (append-nil vs) latest
latest_more key vs (w ∷ ws) t some latest =
    rw (append_assoc vs (w ∷ []) ws) at (latest_more key (vs ++ w ∷ []) ws (came_to t w) (λ v i. some v (inr i)) (latest_push key vs t w (some w (inl refl)) latest))

-- registers that were empty hold the latest of what came
latest : (key : ℕ) (vs : List Version) → are_versions vs ≡ true → LatestOf key vs (came_all (λ k. None) vs key)
latest key vs all = latest_more key [] vs (λ k. None) (λ v i. above_none v (versions_in vs all v i)) (none_of_it (λ v i at. i) refl)

-- a log that has accepted these versions, of which each site has read so many
record Tells (strides : ℕ → ℕ) (accepted : List Version) (read : ℕ → ℕ) (s : LogState) : Type 0 where
  gone : ℕ
  gone_within : gone ≤ length accepted
  base_has : (key : ℕ) → s.base key ≡ came_all (λ k. None) (take gone accepted) key
  tail_has : s.tail ≡ drop gone accepted
  reads : (site : ℕ) → site < sites → gone + s.position site ≡ read site
  same_strides : (site : ℕ) → s.stride site ≡ strides site
  all_versions : are_versions accepted ≡ true
  lowest_is_0 : lowest_at s.position ≡ 0

tells_put : (strides : ℕ → ℕ) (accepted : List Version) (read : ℕ → ℕ) (s : LogState) (v : Version) → is_version v ≡ true
    → Tells strides accepted read s → Tells strides (accepted ++ v ∷ []) read (after_put s v)
tells_put strides accepted read s v is told =
    record {
      gone = told.gone;
      gone_within = omega (arith, told.gone_within, length_push accepted v);
      base_has =
          λ key. told.base_has key ∙ ap (λ (xs : List Version). came_all (λ k. None) xs key) (sym (take-append-le told.gone accepted (v ∷ []) told.gone_within));
      tail_has = ap (λ (xs : List Version). xs ++ v ∷ []) told.tail_has ∙ sym (drop-append-le told.gone accepted (v ∷ []) told.gone_within);
      reads = told.reads;
      same_strides = told.same_strides;
      all_versions = versions_push accepted v told.all_versions is;
      lowest_is_0 = told.lowest_is_0;
    }

-- what a site shows are the registers after all that it has read
shown_is : (strides : ℕ → ℕ) (accepted : List Version) (read : ℕ → ℕ) (s : LogState) (told : Tells strides accepted read s) (n key : ℕ)
    → came_all s.base (take n s.tail) key ≡ came_all (λ k. None) (take (told.gone + n) accepted) key
shown_is strides accepted read s told n key =
    ap (λ (xs : List Version). came_all s.base (take n xs) key) told.tail_has
    ∙ ap (λ (t : Table). came_all t (take n (drop told.gone accepted)) key) (λ i k. told.base_has k i)
    ∙ ap (λ (t : Table). t key) (sym (came_append (λ k. None) (take told.gone accepted) (take n (drop told.gone accepted))))
    ∙ ap (λ (xs : List Version). came_all (λ k. None) xs key) (sym (take-add told.gone n accepted))

tells_tick : (strides : ℕ → ℕ) (accepted : List Version) (read : ℕ → ℕ) (s : LogState) → Tells strides accepted read s
    → Tells strides accepted (λ site. min (read site + strides site) (length accepted)) (after_tick s)
tells_tick strides accepted read s told =
    let low = lowest_at (moved_on s) in
    let long : length s.tail ≡ length accepted - told.gone = ap length told.tail_has ∙ length-drop told.gone accepted in
    record {
      gone = told.gone + low;
      gone_within = omega (arith, low_within s, long, told.gone_within);
      base_has = λ key. shown_is strides accepted read s told low key;
      tail_has = ap (drop low) told.tail_has ∙ drop-drop low told.gone accepted;
      reads =
          λ site h. omega (
            arith,
            lowest_at_most (moved_on s) site h,
            told.reads site h,
            told.same_strides site,
            told.gone_within,
            long,
          );
      same_strides = told.same_strides;
      all_versions = told.all_versions;
      lowest_is_0 = lowest_at_less low (moved_on s) ∙ omega arith;
    }

-- a put, by its answer
tells_answer : (strides : ℕ → ℕ) (accepted : List Version) (read : ℕ → ℕ) (s : LogState) (site : ℕ) (v : Version) (answer : PutAnswer) (t : LogState)
    → Tells strides accepted read s → PutLeaves (tail_bar s.tail) s (after_put s v) site v answer t → Tells strides (accepted ++ accepted_by answer v) read t
tells_answer strides accepted read s site v answer t told (refused_unfit out a l) = rw (a, append-nil accepted, l) told
tells_answer strides accepted read s site v answer t told (refused_barred within b e a l) = rw (a, append-nil accepted, l) told
tells_answer strides accepted read s site v answer t told (put_accepted within e a l) = rw (a, l) (tells_put strides accepted read s v within.1 told)

tells : (strides : ℕ → ℕ) (ds : List Deed) (s : LogState) → Ran log_kind (log_start strides) ds s
    → Tells strides (accepted_of ds) (λ site. read_by (strides site) ds) s
tells strides [] s e =
    rw e (record { gone = 0; gone_within = omega arith; base_has = λ key. refl; tail_has = refl; reads = λ site h. refl; same_strides = λ site. refl; all_versions = refl; lowest_is_0 = sym (lowest_at_reached (λ site. 0)).2 })
tells strides (did_put site v answer ∷ ds) s ran =
    tells_answer strides (accepted_of ds) (λ other. read_by (strides other) ds) ran.0 site v answer s (tells strides ds ran.0 ran.1) ran.2
tells strides (did_tick ∷ ds) s ran =
    rw ran.2 (tells_tick strides (accepted_of ds) (λ site. read_by (strides site) ds) ran.0 (tells strides ds ran.0 ran.1))

pub log_law : LogLaw
log_law strides ds s ran =
    let told = tells strides ds s ran in
    let accepted = accepted_of ds in
    record {
      gone = told.gone;
      gone_within = told.gone_within;
      gone_is_the_lowest =
          let r = lowest_at_reached s.position in
          let q = lowest_at_reached (λ site. read_by (strides site) ds) in
          omega (
            arith,
            told.lowest_is_0,
            r.2,
            told.reads r.0 r.1,
            lowest_at_most (λ site. read_by (strides site) ds) r.0 r.1,
            q.2,
            told.reads q.0 q.1,
          );
      base_has_them = told.base_has;
      tail_has_the_others = told.tail_has;
      reads_a_prefix = told.reads;
      shows_the_latest =
          λ site key h k. let read = read_by (strides site) ds in
          subst (λ (o : Option Version). LatestOf key (take read accepted) o)
          (sym (shown_is strides accepted (λ other. read_by (strides other) ds) s told (s.position site) key
          ∙ ap (λ (n : ℕ). came_all (λ j. None) (take n accepted) key) (told.reads site h)))
          (latest key (take read accepted) (versions_parts read accepted told.all_versions).0);
    }
