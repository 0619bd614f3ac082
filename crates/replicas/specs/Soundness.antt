-- Replicas keep the laws of every store.
use Rattle.std.specs.Prelude.{◌≡◌, ℕ, ◌+◌, ◌-◌, ◌<◌, ◌≤◌, max, true, not, ◌&&◌, ◌⊎◌, List, [], ◌∷◌, ◌++◌, map, length, Some, None, filter, Option, ◌==◌, ◌≢◌, nat_lt, refl}
use Rattle.std.proofs.Common.{inl, inr, ⊎_elim, sym, ap, subst, ◌∙◌, arith}
use Rattle.std.proofs.lemmas.List.Filters.{length-filter_both}
use Rattle.std.proofs.lemmas.List.{length-append, length-map}
use Rattle.std.proofs.lemmas.Bool.{cond_both, eqb-true, eqb-false, and_parts, not-true}
use Rattle.std.proofs.lemmas.Bool.Decides.{nat_tests}
use Rattle.stamps.specs.Numbers.{keys, sites}
use Rattle.versions.specs.Joins.{In}
use Rattle.versions.specs.Versions.{is_version}
use Rattle.versions.specs.declared.version.Version.{Version}
use Rattle.versions.proofs.Versioning.{parts_of_version}
use Rattle.causal.specs.Tables.{held_stamp}
use Rattle.store.specs.Kinds.{Sound, EachStepHasOneOutcome, RefusedKeeps}
use Rattle.store.specs.Meanings.{InPutRange, Lawful, New, Passed, Took}
use Rattle.store.specs.Registers.{Sites, all_held_at, came_at, came_to, highest_of_key, is_placed}
use Rattle.store.proofs.Keeping.{in_left, in_right, in_either, in_map, from_map, in_held_at, from_held_at, held_at_none, highest_at, highest_under, highest_append}
use Rattle.store.proofs.Making.{put_means, put_keeps, one_put, refused_left}
use Rattle.store.proofs.Registering.{came_at_placed, came_placed, placed_key, placed_version}
use Rattle.replicas.specs.Lines.{line_time, TimesFit}
use Rattle.replicas.specs.Numbers.{delivery_limit, line_limit, places_wanted}
use Rattle.replicas.specs.Replicas.{ReplicasGood, ReplicasState, after_put, after_tick, are_deliveries, delivered, deliveries_bar, forecast, has_come, is_delivery, lowered, most_left, on_the_way, put_now, replicas_kept, replicas_kind, replicas_mean, replicas_start, sent_below, versions_of}
use Rattle.replicas.specs.declared.delivery.Delivery.{Delivery}
use Rattle.replicas.specs.Delivering.{Fit, fit_all, fit_member, fit_parts}
use Rattle.replicas.specs.Forecasting.{delivered_one, from_kept, from_sent, put_forecast, put_one, stamp_of_other, stamp_of_own, stamp_of, tick_forecast, way_member}
use Rattle.replicas.specs.Sending.{sent_three}

-- deliveries with no tick left are none
pub most_none : (ds : List Delivery) → are_deliveries ds ≡ true → most_left ds ≡ 0 → ds ≡ []
most_none [] e z = refl
most_none (x ∷ ds) e z = absurd (omega (arith, z, (fit_parts x (and_parts (is_delivery x) (are_deliveries ds) e).0).more))

-- what is on its way is among the versions of deliveries
way_under : (s k : ℕ) (ds : List Delivery) → on_the_way s k ds ≤ highest_of_key k (versions_of ds)
way_under s k [] = omega arith
way_under s k (d ∷ ds) = let rest = way_under s k ds in grind (arith, nat_tests)

-- a register's stamp is among those of what is held
held_under : (t : Sites) (s k : ℕ) → s < sites → k < keys → is_placed k (t s k) ≡ true → held_stamp (t s k) ≤ highest_of_key k (all_held_at t)
held_under t s k hs hk p = one (t s k) refl
  where
    one : (o : Option Version) → t s k ≡ o → held_stamp (t s k) ≤ highest_of_key k (all_held_at t)
    one None e = omega (arith, ap held_stamp e)
    one (Some v) e =
        omega (arith, ap held_stamp e, highest_at k (all_held_at t) v (in_held_at sites t s k v hs hk e) (placed_key k (t s k) v p e))

-- the peak of a key is what every site will have
peak_forecast : (s : ReplicasState) → ReplicasGood s → (site key : ℕ) → site < sites → key < keys
    → highest_of_key key (replicas_kept s) ≡ forecast s.registers s.deliveries site key
peak_forecast s g site key hs hk =
    let under = highest_under key (replicas_kept s) (forecast t ds site key) below in
    let a = held_under t site key hs hk (g.placed site key) in
    let b = way_under site key ds in
    omega (arith, under, a, b, highest_append key (all_held_at t) (versions_of ds))
  where
    t : Sites
    t = s.registers

    ds : List Delivery
    ds = s.deliveries

    below : (v : Version) → In v (replicas_kept s) → v.key ≡ key → v.stamp.number ≤ forecast t ds site key
    below v i e =
        ⊎_elim
        (λ l. let r = from_held_at sites t v l in
        let at = placed_key r.1 (t r.0 r.1) v (g.placed r.0 r.1) r.4 in
        let held = ap (λ (j : ℕ). held_stamp (t r.0 j)) (sym e ∙ at) ∙ ap held_stamp r.4 in
        omega (arith, held, g.forecasts_agree r.0 key r.2, g.forecasts_agree site key hs))
        (λ q. let r = from_map (λ (d : Delivery). d.version) v ds q in
        let stamps = ap (λ (x : Version). x.stamp.number) r.2 in
        let way = way_member r.0.site key r.0 ds r.1 refl (ap (λ (x : Version). x.key) (sym r.2) ∙ e) in
        omega (arith, stamps, way, g.forecasts_agree r.0.site key (fit_member ds r.0 g.deliveries_fit r.1).site, g.forecasts_agree site key hs))
        (in_either v (all_held_at t) (versions_of ds) i)

-- what good replicas mean is lawful
lawful : (s : ReplicasState) → ReplicasGood s → Lawful (replicas_mean s)
lawful s g =
    record {
      kept_are_versions =
          λ v i. ⊎_elim (λ l. let r = from_held_at sites t v l in placed_version r.1 (t r.0 r.1) v (g.placed r.0 r.1) r.4)
          (λ q. let r = from_map (λ (d : Delivery). d.version) v ds q in
          subst (λ (x : Version). is_version x ≡ true) (sym r.2) (fit_member ds r.0 g.deliveries_fit r.1).version)
          (in_either v (all_held_at t) (versions_of ds) i);
      shown_is_kept = λ site key v h e. in_left v (all_held_at t) (versions_of ds) (in_held_at sites t site key v h.0 h.1 e);
      shown_is_keyed = λ site key v h e. placed_key key (t site key) v (g.placed site key) e;
      settled_shows_peaks =
          λ w site key h. let none = ap (on_the_way site key) (most_none ds g.deliveries_fit w) in
          omega (arith, none, peak_forecast s g site key h.0 h.1);
      settled_is_unbarred = λ w. ap deliveries_bar (most_none ds g.deliveries_fit w);
    }
  where
    t : Sites
    t = s.registers

    ds : List Delivery
    ds = s.deliveries

-- line times are within the limit
line_fits : (ts : List ℕ) → TimesFit ts → (a b : ℕ) → line_time ts a b ≤ line_limit
line_fits ts fit a b = grind (arith, nat_tests, fit)

-- no bar: there is room for three
unbarred : (ds : List Delivery) → deliveries_bar ds ≡ None → length ds + places_wanted ≤ delivery_limit
unbarred ds e = grind (arith, nat_tests)

-- an accepted put keeps what holds of replicas
pub put_good : (s : ReplicasState) (site : ℕ) (v : Version) → ReplicasGood s → InPutRange site v → deliveries_bar s.deliveries ≡ None → ReplicasGood (after_put s site v)
put_good s site v g within free =
    record {
      placed =
          λ j k. cond_both (nat_lt j sites && line_time s.times site j == 0) (came_to (s.registers j) v) (s.registers j) (λ f. is_placed k (f k) ≡ true)
          (λ _. came_placed (s.registers j) v (g.placed j) within.1 k) (λ _. g.placed j k);
      deliveries_fit =
          fit_all (s.deliveries ++ sent)
          (λ d i. ⊎_elim (fit_member s.deliveries d g.deliveries_fit) (λ r. new d (from_sent sites s.times site v d r)) (in_either d s.deliveries sent i));
      few = omega (arith, length-append s.deliveries sent, sent_three s.times site v within.0, unbarred s.deliveries free);
      times_fit = g.times_fit;
      forecasts_agree =
          λ j k h. put_forecast s.times site v s.registers s.deliveries j k h
          ∙ ap (λ (n : ℕ). max n (stamp_of k v)) (g.forecasts_agree j k h)
          ∙ sym (put_forecast s.times site v s.registers s.deliveries 0 k (omega arith));
    }
  where
    sent : List Delivery
    sent = sent_below sites s.times site v

    new : (d : Delivery) → (d.version ≡ v) × (d.site < sites) × (d.left ≡ line_time s.times site d.site) × (d.left ≢ 0) → Fit d
    new d p =
        record {
          version = ap is_version p.0 ∙ within.1;
          site = p.1;
          more = let ne = p.3 in omega (arith, ne);
          most = omega (arith, p.2, line_fits s.times g.times_fit site d.site);
        }

-- what an accepted put does to the meaning
took : (s : ReplicasState) (site : ℕ) (v : Version) → ReplicasGood s → InPutRange site v → deliveries_bar s.deliveries ≡ None
    → Took (replicas_mean s) v (replicas_mean (after_put s site v))
took s site v g within free =
    record {
      kept_or_put =
          λ w i. ⊎_elim
          (λ l. let r = from_held_at sites (put_now s.times site v t) w l in held w r.0 r.1 r.2 r.3 r.4)
          (λ q. let r = from_map (λ (d : Delivery). d.version) w (ds ++ sent_below sites s.times site v) q in
          ⊎_elim
          (λ old. inr (in_right w (all_held_at t) (versions_of ds) (subst (λ (x : Version). In x (versions_of ds)) (sym r.2) (in_map (λ (d : Delivery). d.version) r.0 ds old))))
          (λ new. inl (r.2 ∙ (from_sent sites s.times site v r.0 new).0)) (in_either r.0 ds (sent_below sites s.times site v) r.1))
          (in_either w (all_held_at (put_now s.times site v t)) (versions_of (ds ++ sent_below sites s.times site v)) i);
      own_peak =
          let own = peak v.key (parts_of_version v within.1).keyed in
          omega (arith, own, stamp_of_own v.key v refl);
      other_peaks = λ key h ne. let other = peak key h in omega (arith, other, stamp_of_other key v (λ e. ne (sym e)));
    }
  where
    t : Sites
    t = s.registers

    ds : List Delivery
    ds = s.deliveries

    held : (w : Version) (j k : ℕ) → j < sites → k < keys → put_now s.times site v t j k ≡ Some w → (w ≡ v) ⊎ In w (replicas_kept s)
    held w j k hj hk e =
        ⊎_elim (λ old. inr (in_left w (all_held_at t) (versions_of ds) (in_held_at sites t j k w hj hk old))) (λ new. inl new.0)
        (put_one s.times site v t j k w e)

    peak : (key : ℕ) → key < keys → highest_of_key key (replicas_kept (after_put s site v)) ≡ max (highest_of_key key (replicas_kept s)) (stamp_of key v)
    peak key h =
        peak_forecast (after_put s site v) (put_good s site v g within free) 0 key (omega arith) h
        ∙ put_forecast s.times site v t ds 0 key (omega arith)
        ∙ ap (λ (n : ℕ). max n (stamp_of key v)) (sym (peak_forecast s g 0 key (omega arith) h))

-- what a tick leaves of deliveries
pub from_stay : (ds : List Delivery) (d : Delivery) → In d (filter (λ x. not (has_come x)) (map lowered ds))
    → (x : Delivery) × In x ds × (d ≡ lowered x) × (d.left ≢ 0)
from_stay ds d i =
    let r = from_kept (λ x. not (has_come x)) d (map lowered ds) i in
    let q = from_map lowered d ds r.0 in (q.0, q.1, q.2, eqb-false d.left 0 (not-true (has_come d) r.1))

pub from_come : (ds : List Delivery) (d : Delivery) → In d (filter has_come (map lowered ds)) → (x : Delivery) × In x ds × (d ≡ lowered x) × (d.left ≡ 0)
from_come ds d i =
    let r = from_kept has_come d (map lowered ds) i in
    let q = from_map lowered d ds r.0 in (q.0, q.1, q.2, eqb-true d.left 0 r.1)

stay_most : (ds : List Delivery) → most_left (filter (λ d. not (has_come d)) (map lowered ds)) ≤ most_left ds - 1
stay_most [] = omega arith
stay_most (d ∷ ds) =
    let rest = stay_most ds in
    cond_both (not (has_come (lowered d))) (lowered d ∷ filter (λ x. not (has_come x)) (map lowered ds)) (filter (λ x. not (has_come x)) (map lowered ds))
    (λ l. most_left l ≤ most_left (d ∷ ds) - 1) (λ e. omega (arith, rest)) (λ e. omega (arith, rest))

-- registers keep their places when deliveries of versions come
delivered_placed : (t : Sites) (ds : List Delivery) → ((s k : ℕ) → is_placed k (t s k) ≡ true) → ((d : Delivery) → In d ds → is_version d.version ≡ true)
    → (s k : ℕ) → is_placed k (delivered t ds s k) ≡ true
delivered_placed t [] p are = p
delivered_placed t (d ∷ ds) p are =
    delivered_placed (came_at t d.site d.version) ds (came_at_placed t d.site d.version p (are d (inl refl))) (λ x i. are x (inr i))

-- a tick keeps what holds of replicas
pub tick_good : (s : ReplicasState) → ReplicasGood s → ReplicasGood (after_tick s)
tick_good s g =
    record {
      placed = delivered_placed s.registers (filter has_come (map lowered ds)) g.placed come;
      deliveries_fit = fit_all (filter (λ x. not (has_come x)) (map lowered ds)) stay;
      few = omega (arith, g.few, length-filter_both has_come (λ x. not (has_come x)) (λ x. refl) (map lowered ds), length-map ds lowered);
      times_fit = g.times_fit;
      forecasts_agree = λ j k h. tick_forecast s.registers ds j k ∙ g.forecasts_agree j k h ∙ sym (tick_forecast s.registers ds 0 k);
    }
  where
    ds : List Delivery
    ds = s.deliveries

    come : (d : Delivery) → In d (filter has_come (map lowered ds)) → is_version d.version ≡ true
    come d i = let r = from_come ds d i in ap (λ (x : Delivery). is_version x.version) r.2 ∙ (fit_member ds r.0 g.deliveries_fit r.1).version

    stay : (d : Delivery) → In d (filter (λ x. not (has_come x)) (map lowered ds)) → Fit d
    stay d i =
        let r = from_stay ds d i in
        let f = fit_member ds r.0 g.deliveries_fit r.1 in
        let left = ap (λ (x : Delivery). x.left) r.2 in
        let at = ap (λ (x : Delivery). x.site) r.2 in
        let ne = r.3 in
        record {
          version = ap (λ (x : Delivery). is_version x.version) r.2 ∙ f.version;
          site = omega (arith, at, f.site);
          more = omega (arith, ne);
          most = omega (arith, left, f.most);
        }

-- what a tick does to the meaning
passed : (s : ReplicasState) → ReplicasGood s → Passed (replicas_mean s) (replicas_mean (after_tick s))
passed s g =
    record {
      kept_before =
          λ w i. ⊎_elim
          (λ l. let r = from_held_at sites (delivered t come) w l in
          ⊎_elim (λ old. in_left w (all_held_at t) (versions_of ds) (in_held_at sites t r.0 r.1 w r.2 r.3 old))
          (λ new. let q = from_come ds new.0 new.1 in on_way w q.0 q.1 (new.2 ∙ ap (λ (d : Delivery). d.version) q.2))
          (delivered_one t come r.0 r.1 w r.4))
          (λ q. let r = from_map (λ (d : Delivery). d.version) w stay q in
          let p = from_stay ds r.0 r.1 in on_way w p.0 p.1 (r.2 ∙ ap (λ (d : Delivery). d.version) p.2))
          (in_either w (all_held_at (delivered t come)) (versions_of stay) i);
      peaks_hold =
          λ key h. peak_forecast (after_tick s) (tick_good s g) 0 key (omega arith) h ∙ tick_forecast t ds 0 key ∙ sym (peak_forecast s g 0 key (omega arith) h);
      wait_falls = stay_most ds;
    }
  where
    t : Sites
    t = s.registers

    ds : List Delivery
    ds = s.deliveries

    come : List Delivery
    come = filter has_come (map lowered ds)

    stay : List Delivery
    stay = filter (λ x. not (has_come x)) (map lowered ds)

    on_way : (w : Version) (d : Delivery) → In d ds → w ≡ d.version → In w (replicas_kept s)
    on_way w d i e =
        in_right w (all_held_at t) (versions_of ds) (subst (λ (x : Version). In x (versions_of ds)) (sym e) (in_map (λ (x : Delivery). x.version) d ds i))

pub replicas_sound : Sound replicas_kind
replicas_sound =
    record {
      lawful = lawful;
      put_keeps =
          λ s site v answer t g put. put_keeps ReplicasGood (deliveries_bar s.deliveries) s (after_put s site v) site v answer t g put
          (λ within free. put_good s site v g within free);
      put_means =
          λ s site v answer t g put. put_means replicas_mean s (after_put s site v) site v answer t put (λ within free. took s site v g within free);
      tick_keeps = λ s t g e. subst ReplicasGood (sym e) (tick_good s g);
      tick_means = λ s t g e. subst (λ (x : ReplicasState). Passed (replicas_mean s) (replicas_mean x)) (sym e) (passed s g);
    }

-- new replicas are good, and new
pub start_good : (ts : List ℕ) → TimesFit ts → ReplicasGood (replicas_start ts)
start_good ts fit =
    record { placed = λ site key. refl; deliveries_fit = refl; few = omega arith; times_fit = fit; forecasts_agree = λ site key h. refl }

pub start_new : (ts : List ℕ) (s : ReplicasState) → s ≡ replicas_start ts → New (replicas_mean s)
start_new ts s e = subst (λ (x : ReplicasState). New (replicas_mean x)) (sym e) new
  where
    none : replicas_kept (replicas_start ts) ≡ []
    none = ap (λ (vs : List Version). vs ++ []) (held_at_none sites (λ site key. None) (λ site key. refl))

    new : New (replicas_mean (replicas_start ts))
    new = record { nothing_kept = none; no_peaks = λ key h. ap (highest_of_key key) none; no_wait = refl }

pub replicas_one : EachStepHasOneOutcome replicas_kind
replicas_one =
    record {
      one_put = λ s site v. one_put (deliveries_bar s.deliveries) s (after_put s site v) site v;
      one_tick = λ s t t' e e'. e ∙ sym e';
    }

pub replicas_left : RefusedKeeps replicas_kind
replicas_left s site v e t put = refused_left (deliveries_bar s.deliveries) s (after_put s site v) site v e t put
