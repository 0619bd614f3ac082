-- The poll layer over any make of store that keeps the laws of every store keeps them too.
use Rattle.std.specs.Prelude.{◌≡◌, ℕ, ◌-◌, ◌≤◌, ◌⊎◌, Bool, true, false, cond, ◌&&◌, List, ◌++◌, Some, None, Option, ◌==◌, ◌≢◌, refl}
use Rattle.std.proofs.Common.{rules, inl, inr, ⊎_elim, sym, ap, ap₂, subst, ◌∙◌, arith}
use Rattle.std.proofs.lemmas.Bool.{cases_Bool, cases_eq, cond-true, cond-false, eqb-true, and_parts}
use Rattle.std.proofs.lemmas.Bool.Decides.{Decides-and, Decides-eqb, not_from_Decides}
use Rattle.stamps.specs.Numbers.{sites}
use Rattle.versions.specs.Joins.{In}
use Rattle.versions.specs.declared.version.Version.{Version}
use Rattle.causal.specs.Tables.{held_stamp}
use Rattle.store.specs.Kinds.{Kind, Sound}
use Rattle.store.specs.Meanings.{Meaning, InAskRange, Lawful, Unaltered, Took, Passed, New}
use Rattle.store.specs.Puts.{PutAnswer, PutMeans, bar_passed_up, refused_unfit, refused_barred, put_accepted}
use Rattle.store.specs.Registering.{site_registers_placed}
use Rattle.store.specs.Registers.{is_placed, all_held_at}
use Rattle.store.proofs.Keeping.{in_left, in_right, in_either, in_held_at, from_held_at, held_at_none}
use Rattle.store.proofs.Registering.{placed_version, placed_key, placed_some}
use Rattle.poll.specs.Holding.{SameStamps, layer_of}
use Rattle.poll.specs.Poll.{PollState, PollGood, PollStored, PollTicked, passed_up, answer_passed_up, copy_of, after_put, after_copying, after_counting, same_stamps, first_copying, poll_settled, poll_wait, poll_means, poll_kind}
use Rattle.poll.specs.declared.poll.Poll.{Poll}
use Rattle.poll.specs.Comparing.{same_decides, same_alike, copy_at, copy_each}
use Rattle.poll.specs.Ticking.{tick_each}
use Rattle.poll.specs.Timing.{first_nearer, first_again}

-- what is shown in range by a lawful store is a version of its key, or none
pub shown_placed : (m : Meaning) → Lawful m → (site key : ℕ) → InAskRange site key → is_placed key (m.shown site key) ≡ true
shown_placed m l site key h = placed (m.shown site key) refl
  where
    placed : (o : Option Version) → m.shown site key ≡ o → is_placed key o ≡ true
    placed None e = refl
    placed (Some v) e = search (rules, placed_some, l.kept_are_versions, l.shown_is_kept, l.shown_is_keyed)

module _ (K : Kind) where
  -- the ticks to the first copying that comes no sooner than below's wait
  abbrev until_copied : PollState K → ℕ
  until_copied s = first_copying s.countdown s.period (K.means s.below).wait

  -- the layer is settled
  abbrev Settled : PollState K → Type 0
  Settled s = ((K.means s.below).wait ≡ 0) × SameStamps s.snapshot (K.means s.below).shown

  -- a layer that passes the test has no wait below and passes the test of stamps
  rest_parts : (s : PollState K) → poll_settled K s ≡ true → ((K.means s.below).wait ≡ 0) × (same_stamps s.snapshot (K.means s.below).shown ≡ true)
  rest_parts s e =
      let r = and_parts ((K.means s.below).wait == 0) (same_stamps s.snapshot (K.means s.below).shown) e in
      (eqb-true (K.means s.below).wait 0 r.0, r.1)

  -- while there is a wait below it fails the test
  not_rest : (s : PollState K) → ((K.means s.below).wait ≢ 0) → poll_settled K s ≡ false
  not_rest s some = ⊎_elim (λ e. absurd (some (rest_parts s e).0)) (λ f. f) (cases_Bool (poll_settled K s))

  -- either it is, and there is no wait, or it waits for a copying
  wait_tells : (s : PollState K) → (Settled s × (poll_wait K s ≡ 0)) ⊎ ((Settled s → ⊥) × (poll_wait K s ≡ until_copied s))
  wait_tells s =
      let tells = Decides-and ((K.means s.below).wait == 0) (same_stamps s.snapshot (K.means s.below).shown) (Decides-eqb (K.means s.below).wait 0)
      (same_decides s.snapshot (K.means s.below).shown) in
      ⊎_elim (λ e. inl (tells.0 e, cond-true (poll_settled K s) 0 (until_copied s) e))
      (λ f. inr (not_from_Decides (poll_settled K s) tells f, cond-false (poll_settled K s) 0 (until_copied s) f)) (cases_Bool (poll_settled K s))

  -- there is no wait at rest
  rest_waits : (s : PollState K) → Settled s → poll_wait K s ≡ 0
  rest_waits s rest = ⊎_elim (λ now. now.1) (λ busy. absurd (busy.0 rest)) (wait_tells s)

  -- and while there is none it rests
  waits_rest : (s : PollState K) → 1 ≤ s.countdown → poll_wait K s ≡ 0 → Settled s
  waits_rest s h w = ⊎_elim (λ now. now.0) (λ busy. absurd (omega arith)) (wait_tells s)

  -- the layer keeps what is kept below
  kept_below : (s : PollState K) (v : Version) → In v (K.means s.below).kept → In v (poll_means K s).kept
  kept_below s v = in_left v (K.means s.below).kept (all_held_at s.snapshot)

  -- and what its snapshot holds
  kept_held : (s : PollState K) (v : Version) → In v (all_held_at s.snapshot) → In v (poll_means K s).kept
  kept_held s v = in_right v (K.means s.below).kept (all_held_at s.snapshot)

  -- and nothing else
  kept_each : {P : Type 0} (s : PollState K) (v : Version) → (In v (K.means s.below).kept → P) → (In v (all_held_at s.snapshot) → P)
      → In v (poll_means K s).kept → P
  kept_each s v below held i = ⊎_elim below held (in_either v (K.means s.below).kept (all_held_at s.snapshot) i)

  -- what a refused put leaves unaltered below it leaves so above
  above_unaltered : (s : PollState K) (u : K.State) → Unaltered (K.means s.below) (K.means u) → Unaltered (poll_means K s) (poll_means K (after_put K s u))
  above_unaltered s u l =
      record {
        same_kept = (
          λ v. kept_each s v (λ b. kept_below (after_put K s u) v (l.same_kept.0 v b)) (kept_held (after_put K s u) v),
          λ v. kept_each (after_put K s u) v (λ b. kept_below s v (l.same_kept.1 v b)) (kept_held s v),
        );
        same_shown = λ site key h. refl;
        same_peaks = l.same_peaks;
        same_wait =
            ap₂ (λ (w : ℕ) (b : Bool). cond (w == 0 && b) 0 (first_copying s.countdown s.period w)) l.same_wait
            (same_alike s.snapshot (K.means s.below).shown (K.means u).shown l.same_shown);
        same_bar = ap passed_up l.same_bar;
      }

  -- what an accepted put leaves below it leaves above
  above_took : (s : PollState K) (v : Version) (u : K.State) → Took (K.means s.below) v (K.means u) → Took (poll_means K s) v (poll_means K (after_put K s u))
  above_took s v u l =
      record {
        kept_or_put =
            λ w. kept_each (after_put K s u) w (λ b. ⊎_elim inl (λ o. inr (kept_below s w o)) (l.kept_or_put w b)) (λ h. inr (kept_held s w h));
        own_peak = l.own_peak;
        other_peaks = l.other_peaks;
      }

  -- so a put means above what it means below, with the answer passed up
  above_answered : (s : PollState K) (site : ℕ) (v : Version) (answer : PutAnswer) (u : K.State) → PutMeans (K.means s.below) site v answer (K.means u)
      → PutMeans (poll_means K s) site v (answer_passed_up answer) (poll_means K (after_put K s u))
  above_answered s site v answer u (refused_unfit out a l) = refused_unfit out (ap answer_passed_up a) (above_unaltered s u l)
  above_answered s site v answer u (refused_barred within b e a l) =
      refused_barred within (bar_passed_up b) (ap passed_up e) (ap answer_passed_up a) (above_unaltered s u l)
  above_answered s site v answer u (put_accepted within e a l) = put_accepted within (ap passed_up e) (ap answer_passed_up a) (above_took s v u l)

module _ (K : Kind) (sound : Sound K) where
  -- good states mean lawfully
  above_lawful : (s : PollState K) → PollGood K s → Lawful (poll_means K s)
  above_lawful s g =
      let l = sound.lawful s.below g.below_good in
      record {
        kept_are_versions =
            λ v. kept_each K s v (l.kept_are_versions v)
            (λ h. let r = from_held_at sites s.snapshot v h in placed_version r.1 (s.snapshot r.0 r.1) v (g.placed r.0 r.1) r.4);
        shown_is_kept = λ site key v h e. kept_held K s v (in_held_at sites s.snapshot site key v h.0 h.1 e);
        shown_is_keyed = λ site key v h e. placed_key key (s.snapshot site key) v (g.placed site key) e;
        settled_shows_peaks =
            λ w site key h. let rest = waits_rest K s g.countdown_least w in rest.1 site key h ∙ l.settled_shows_peaks rest.0 site key h;
        settled_is_unbarred = λ w. ap passed_up (l.settled_is_unbarred (waits_rest K s g.countdown_least w).0);
      }

  -- a put keeps them good
  above_put_good : (s : PollState K) (site : ℕ) (v : Version) (answer : PutAnswer) (t : PollState K) → PollGood K s → PollStored K s site v answer t → PollGood K t
  above_put_good s site v answer t g p = rw p.leaves (search (rules, sound.put_keeps))

  -- and means what it may
  above_put_means : (s : PollState K) (site : ℕ) (v : Version) (answer : PutAnswer) (t : PollState K) → PollGood K s → PollStored K s site v answer t
      → PutMeans (poll_means K s) site v answer (poll_means K t)
  above_put_means s site v answer t g p =
      rw (p.answers, p.leaves)
      (above_answered K s site v p.answer_below p.below_after (sound.put_means s.below site v p.answer_below p.below_after g.below_good p.stored_below))

  -- a tick keeps them good
  above_tick_good : (s t : PollState K) → PollGood K s → PollTicked K s t → PollGood K t
  above_tick_good s t g p =
      let u = p.below_after in
      let good = sound.tick_keeps s.below u g.below_good p.ticked_below in
      subst (PollGood K) (sym p.leaves)
      (tick_each K s u (PollGood K)
      (λ last. record {
        below_good = good;
        placed = λ site key. copy_each (λ o. is_placed key o ≡ true) (K.means u).shown site key refl (shown_placed (K.means u) (sound.lawful u good) site key);
        countdown_least = omega arith;
        countdown_most = omega arith;
        period_most = g.period_most;
      })
      (λ more. record {
        below_good = good;
        placed = g.placed;
        countdown_least = omega arith;
        countdown_most = omega arith;
        period_most = g.period_most;
      }))

  -- the wait falls with a copying: it is over, or it runs to a copying that has come nearer
  copied_falls : (s : PollState K) (u : K.State) → PollGood K s → s.countdown ≤ 1 → Passed (K.means s.below) (K.means u)
      → poll_wait K (after_copying K s u) ≤ poll_wait K s - 1
  copied_falls s u g last l = ⊎_elim (λ now. omega arith) still (wait_tells K (after_copying K s u))
    where
      t : PollState K
      t = after_copying K s u

      -- a copy is of what is shown, so the wait is not over below
      still : ((Settled K t → ⊥) × (poll_wait K t ≡ until_copied K t)) → poll_wait K t ≤ poll_wait K s - 1
      still busy =
          let some : 1 ≤ (K.means u).wait =
          ⊎_elim (λ none. absurd (busy.0 (none, λ site key h. ap held_stamp (copy_at (K.means u).shown site key h)))) (λ some. omega arith) (cases_eq (K.means u).wait 0) in
          let one : s.countdown ≡ 1 = omega arith in
          let near : first_copying s.period s.period (K.means u).wait ≤ first_copying 1 s.period (K.means s.below).wait - 1 =
          first_again s.period (K.means s.below).wait (K.means u).wait (omega arith) some l.wait_falls in
          let first : until_copied K s ≡ first_copying 1 s.period (K.means s.below).wait = ap (λ (c : ℕ). first_copying c s.period (K.means s.below).wait) one in
          ⊎_elim (λ rest. absurd (omega arith)) (λ waits. omega arith) (wait_tells K s)

  -- and with a tick that copies nothing: it stays over, or the copying has come nearer
  counted_falls : (s : PollState K) (u : K.State) → PollGood K s → K.good u → 2 ≤ s.countdown → Passed (K.means s.below) (K.means u)
      → poll_wait K (after_counting K s u) ≤ poll_wait K s - 1
  counted_falls s u g good more l = ⊎_elim (λ rest. over rest.0) nearer (wait_tells K s)
    where
      t : PollState K
      t = after_counting K s u

      over : Settled K s → poll_wait K t ≤ poll_wait K s - 1
      over rest =
          let none : (K.means u).wait ≡ 0 = omega arith in
          let now : poll_wait K t ≡ 0 =
          rest_waits K t (
            none,
            λ site key h. rest.1 site key h
                ∙ (sound.lawful s.below g.below_good).settled_shows_peaks rest.0 site key h
                ∙ sym (l.peaks_hold key h.1)
                ∙ sym ((sound.lawful u good).settled_shows_peaks none site key h),
          ) in
          omega arith

      nearer : ((Settled K s → ⊥) × (poll_wait K s ≡ until_copied K s)) → poll_wait K t ≤ poll_wait K s - 1
      nearer busy =
          let near = first_nearer s.countdown s.period (K.means s.below).wait (K.means u).wait (omega arith) more l.wait_falls in
          ⊎_elim (λ rest. omega arith) (λ waits. omega arith) (wait_tells K t)

  -- and means what it may
  above_tick_means : (s t : PollState K) → PollGood K s → PollTicked K s t → Passed (poll_means K s) (poll_means K t)
  above_tick_means s t g p =
      subst (λ (x : PollState K). Passed (poll_means K s) (poll_means K x)) (sym p.leaves)
      (tick_each K s u (λ x. Passed (poll_means K s) (poll_means K x))
      (λ last. record {
        kept_before =
            λ w i. kept_below K s w (l.kept_before w (kept_each K (after_copying K s u) w (λ b. b) (copied_kept w) i));
        peaks_hold = l.peaks_hold;
        wait_falls = copied_falls s u g last l;
      })
      (λ more. record {
        kept_before =
            λ w. kept_each K (after_counting K s u) w (λ b. kept_below K s w (l.kept_before w b)) (kept_held K s w);
        peaks_hold = l.peaks_hold;
        wait_falls = counted_falls s u g good more l;
      }))
    where
      u : K.State
      u = p.below_after

      good : K.good u
      good = sound.tick_keeps s.below u g.below_good p.ticked_below

      l : Passed (K.means s.below) (K.means u)
      l = sound.tick_means s.below u g.below_good p.ticked_below

      -- a copy is of what is kept
      copied_kept : (w : Version) → In w (all_held_at (copy_of (K.means u).shown)) → In w (K.means u).kept
      copied_kept w i =
          let r = from_held_at sites (copy_of (K.means u).shown) w i in
          (sound.lawful u good).shown_is_kept r.0 r.1 w (r.2, r.3) (sym (copy_at (K.means u).shown r.0 r.1 (r.2, r.3)) ∙ r.4)

  -- so the make keeps the laws
  pub poll_sound : Sound (poll_kind K)
  poll_sound =
      record {
        lawful = above_lawful;
        put_keeps = above_put_good;
        put_means = above_put_means;
        tick_keeps = above_tick_good;
        tick_means = above_tick_means;
      }

  -- an empty snapshot over a new store is new
  pub poll_new : (s : PollState K) → K.good s.below → New (K.means s.below) → ((site key : ℕ) → s.snapshot site key ≡ None) → New (poll_means K s)
  poll_new s good new empty =
      record {
        nothing_kept = ap₂ (λ (a b : List Version). a ++ b) new.nothing_kept (held_at_none sites s.snapshot empty);
        no_peaks = new.no_peaks;
        no_wait =
            rest_waits K s (
              new.no_wait,
              λ site key h. ap held_stamp (empty site key) ∙ sym ((sound.lawful s.below good).settled_shows_peaks new.no_wait site key h ∙ new.no_peaks key h.1),
            );
      }

-- the code's layer is always in a good state, if the store below is
pub poll_good : {S : Type 0} (K : Kind) (state : S → K.State) → ((s : S) → K.good (state s)) → (p : Poll S) → PollGood K (layer_of K state p)
poll_good K state good p =
    record {
      below_good = good p.below;
      placed = site_registers_placed p.snapshot.held;
      countdown_least = p.snapshot.least;
      countdown_most = p.snapshot.most;
      period_most = p.snapshot.period_most;
    }
