-- What the layer shows after a run.
use Rattle.std.proofs.Common.{◌≡◌, ℕ, suc, ◌+◌, ◌*◌, ◌<◌, ◌≤◌, List, [], ◌∷◌, sym, refl, ◌∙◌, subst, ⊎_elim, mul-le-mul_right, add-mul, arith}
use Rattle.std.proofs.lemmas.Bool.{cases_lt}
use Rattle.store.specs.Kinds.{Kind}
use Rattle.store.specs.Meanings.{InAskRange}
use Rattle.store.specs.Runs.{Deed, did_put, did_tick, Ran, ticks_of}
use Rattle.poll.specs.Copying.{PartedAtCopy, PollLaw}
use Rattle.poll.specs.Poll.{PollState, poll_start, after_copying, after_counting, poll_kind}
use Rattle.poll.specs.Comparing.{copy_at}
use Rattle.poll.specs.Ticking.{tick_copies, tick_counts, tick_each}

-- while fewer ticks pass than are left to the next copying, the snapshot stays and the countdown falls by them
record Stays (K : Kind) (u : PollState K) (ticks : ℕ) (s : PollState K) : Type 0 where
  shown : s.snapshot ≡ u.snapshot
  left : ticks + s.countdown ≡ u.countdown

-- so it is after any deeds
stays : (K : Kind) (u : PollState K) (ds : List Deed) (s : PollState K) → Ran (poll_kind K) u ds s → ticks_of ds < u.countdown → Stays K u (ticks_of ds) s
stays K u [] s e h = record { shown = cc; left = grind arith }
stays K u (did_put site v answer ∷ ds) s (t, ran, put) h =
    let before = stays K u ds t ran h in
    record { shown = cc; left = cc }
stays K u (did_tick ∷ ds) s (t, ran, tick) h =
    let before = stays K u ds t ran (omega arith) in
    let e : s ≡ after_counting K t tick.below_after = tick.leaves ∙ tick_counts K t tick.below_after (omega arith) in
    record { shown = cc; left = grind arith }

-- at any time the ticks so far and those left to the next copying make whole periods
record Phase (K : Kind) (period ticks : ℕ) (s : PollState K) : Type 0 where
  periods : ℕ
  whole : ticks + s.countdown ≡ periods * period + period
  least : 1 ≤ s.countdown
  most : s.countdown ≤ period
  lasting : s.period ≡ period

-- so it is after any deeds from new
phase : (K : Kind) (below : K.State) (period : ℕ) → 1 ≤ period → (ds : List Deed) (s : PollState K) → Ran (poll_kind K) (poll_start K below period) ds s
    → Phase K period (ticks_of ds) s
phase K below period h [] s e =
    rw e (record { periods = 0; whole = omega arith; least = h; most = omega arith; lasting = refl })
phase K below period h (did_put site v answer ∷ ds) s (t, ran, put) =
    let before = phase K below period h ds t ran in
    rw put.leaves (record { periods = before.periods; whole = before.whole; least = before.least; most = before.most; lasting = before.lasting })
phase K below period h (did_tick ∷ ds) s (t, ran, tick) =
    let before = phase K below period h ds t ran in
    let q = before.periods in
    subst (Phase K period (suc (ticks_of ds))) (sym tick.leaves)
    (tick_each K t tick.below_after (Phase K period (suc (ticks_of ds)))
    (λ last. record {
      periods = q + 1;
      whole = omega (arith, add-mul q 1 period);
      least = omega arith;
      most = omega arith;
      lasting = before.lasting;
    })
    (λ more. record {
      periods = q;
      whole = omega arith;
      least = omega arith;
      most = omega arith;
      lasting = before.lasting;
    }))

-- so a tick whose number is a multiple of the period copies
copies_now : (K : Kind) (period ticks n : ℕ) (s : PollState K) → Phase K period ticks s → suc ticks ≡ n * period → s.countdown ≤ 1
copies_now K period ticks n s at e =
    ⊎_elim
    (λ less.
    let m : (at.periods + 1) * period ≤ n * period = mul-le-mul_right period (omega arith) in
    omega (arith, add-mul at.periods 1 period))
    (λ enough. let m : n * period ≤ at.periods * period = mul-le-mul_right period enough in absurd (omega arith))
    (cases_lt at.periods n)

-- at which it leaves a copy, and the whole period to go
copied_there : (K : Kind) (below : K.State) (period : ℕ) → 1 ≤ period → (earlier : List Deed) (n : ℕ) (u : PollState K)
    → Ran (poll_kind K) (poll_start K below period) (did_tick ∷ earlier) u → ticks_of (did_tick ∷ earlier) ≡ n * period
    → (u.countdown ≡ period) × ((site key : ℕ) → InAskRange site key → u.snapshot site key ≡ (K.means u.below).shown site key)
copied_there K below period h earlier n u (t, before, tick) times =
    let at = phase K below period h earlier t before in
    let now : u ≡ after_copying K t tick.below_after =
    tick.leaves ∙ tick_copies K t tick.below_after (copies_now K period (ticks_of earlier) n t at times) in (
      cc,
      λ site key within. rw now (copy_at (K.means tick.below_after).shown site key within),
    )

-- once a period has passed there is such a tick
parted_at : (K : Kind) (below : K.State) (period : ℕ) → 1 ≤ period → (ds : List Deed) (s : PollState K) → Ran (poll_kind K) (poll_start K below period) ds s
    → period ≤ ticks_of ds → PartedAtCopy K (poll_start K below period) ds s
parted_at K below period h [] s e some = absurd (omega arith)
parted_at K below period h (did_put site v answer ∷ ds) s (t, ran, put) some =
    let before = parted_at K below period h ds t ran some in
    record {
      later = did_put site v answer ∷ before.later;
      earlier = before.earlier;
      there = before.there;
      number = before.number;
      parted = cc;
      led_there = before.led_there;
      led_on = (t, before.led_on, put);
      whole = before.whole;
      since = before.since;
    }
parted_at K below period h (did_tick ∷ ds) s (t, ran, tick) some = ⊎_elim last (more (parted_at K below period h ds t ran)) (cases_lt t.countdown 2)
  where
    at : Phase K period (ticks_of ds) t
    at = phase K below period h ds t ran

    last : t.countdown < 2 → PartedAtCopy K (poll_start K below period) (did_tick ∷ ds) s
    last one =
        record {
          later = [];
          earlier = ds;
          there = s;
          number = at.periods + 1;
          parted = refl;
          led_there = (t, ran, tick);
          led_on = refl;
          whole = omega (arith, at.whole, at.least, add-mul at.periods 1 period);
          since = h;
        }

    more : (period ≤ ticks_of ds → PartedAtCopy K (poll_start K below period) ds t) → 2 ≤ t.countdown → PartedAtCopy K (poll_start K below period) (did_tick ∷ ds) s
    more there left =
        let enough : period ≤ ticks_of ds =
        ⊎_elim (λ few. absurd (omega (arith, (stays K (poll_start K below period) ds t ran few).left))) (λ l. l) (cases_lt (ticks_of ds) period) in
        let before = there enough in
        let full = (copied_there K below period h before.earlier before.number before.there before.led_there before.whole).0 in
        record {
          later = did_tick ∷ before.later;
          earlier = before.earlier;
          there = before.there;
          number = before.number;
          parted = cc;
          led_there = before.led_there;
          led_on = (t, before.led_on, tick);
          whole = before.whole;
          since = omega (arith, (stays K before.there before.later t before.led_on (omega (arith, full, before.since))).left);
        }

-- so the layer shows the last copy
pub poll_law : (K : Kind) → PollLaw K
poll_law K below period ds s h ran =
    record {
      nothing_at_first = λ few site key. rw (stays K (poll_start K below period) ds s ran few).shown;
      there_is_one = parted_at K below period h ds s ran;
      the_copy_since = λ p site key hs hk.
          let copy = copied_there K below period h p.earlier p.number p.there p.led_there p.whole in
          let few : ticks_of p.later < p.there.countdown = omega arith in
          rw (stays K p.there p.later s p.led_on few).shown (copy.1 site key (hs, hk));
    }
