-- The registers of replicas hold the highest of what has come, after any puts and ticks.
use Rattle.std.proofs.Common.{◌≡◌, ℕ, zero, suc, ◌+◌, ◌-◌, ◌<◌, ◌≤◌, not, List, [], ◌∷◌, ◌++◌, map, Some, Ok, Err, filter, sym, refl, ap, ap₂, ◌∙◌, subst, inl, inr, ⊎_elim, arith}
use Rattle.std.proofs.lemmas.Bool.{cases_lt, eq-eqb, ne_eqb, not_from_false}
use Rattle.stamps.specs.Numbers.{keys, sites}
use Rattle.versions.specs.Joins.{In}
use Rattle.versions.specs.declared.version.Version.{Version}
use Rattle.causal.specs.Tables.{held_stamp}
use Rattle.causal.proofs.Tabling.{none_some}
use Rattle.store.specs.Puts.{PutAnswer, refused_unfit, refused_barred, put_accepted}
use Rattle.store.specs.Registers.{Sites}
use Rattle.store.specs.Runs.{Deed, PutAgo, Ran, did_put, did_tick}
use Rattle.store.specs.declared.put_refusal.PutRefusal.{PutRefusal}
use Rattle.store.proofs.Keeping.{in_left, in_right, in_either, in_map}
use Rattle.replicas.specs.Arrivals.{HasReached, RegistersHoldTheHighest, ReplicasLaw}
use Rattle.replicas.specs.Lines.{line_time}
use Rattle.replicas.specs.Replicas.{ReplicasState, after_put, after_tick, delivered, has_come, lowered, put_now, replicas_kind, replicas_start, sent_below}
use Rattle.replicas.specs.declared.delivery.Delivery.{Delivery}
use Rattle.replicas.specs.Forecasting.{delivered_one, delivered_stamp, from_sent, in_kept, in_sent, put_highest, put_one, put_stamp, way_member}
use Rattle.replicas.specs.Soundness.{from_come, from_stay}

-- a delivery is one of a version that was put, and has the rest of the line time left
record Underway (ts : List ℕ) (ds : List Deed) (d : Delivery) : Type 0 where
  from : ℕ
  ticks : ℕ
  put : PutAgo ds from d.version ticks
  left : d.left + ticks ≡ line_time ts from d.site
  more : d.left ≡ 0 → ⊥

-- and what was put so many ticks ago has one for each site that it has not come to
abbrev awaited_one : List ℕ → ℕ → Version → ℕ → ℕ → Delivery
awaited_one ts from v ticks site = record { version = v; site = site; left = line_time ts from site - ticks }

-- what holds after a run
record Arrived (ts : List ℕ) (ds : List Deed) (s : ReplicasState) : Type 0 where
  lines : s.times ≡ ts
  highest : RegistersHoldTheHighest ts ds s
  underway : (d : Delivery) → In d s.deliveries → Underway ts ds d
  awaited :
      (from : ℕ) (v : Version) (ticks site : ℕ) → PutAgo ds from v ticks → site < sites → ticks < line_time ts from site
      → In (awaited_one ts from v ticks site) s.deliveries

-- it holds of new replicas
arrived_start : (ts : List ℕ) → Arrived ts [] (replicas_start ts)
arrived_start ts =
    record {
      lines = refl;
      highest = record { holds_what_came = λ site key v hs hk e. absurd (none_some v e); holds_the_highest = λ site v hs c. absurd c.2 };
      underway = λ d i. absurd i;
      awaited = λ from v ticks site p hs h. absurd p;
    }

-- what a refused put leaves
arrived_refused : (ts : List ℕ) (ds : List Deed) (s : ReplicasState) (site : ℕ) (v : Version) (e : PutRefusal) → Arrived ts ds s
    → Arrived ts (did_put site v (Err e) ∷ ds) s
arrived_refused ts ds s site v e a =
    record {
      lines = a.lines;
      highest =
          record {
            holds_what_came =
                λ j k w hj hk f. let r = a.highest.holds_what_came j k w hj hk f in ((r.0.0, r.0.1, inr r.0.2, r.0.3), r.1);
            holds_the_highest = λ j w hj c. a.highest.holds_the_highest j w hj (c.0, c.1, older c.0 w c.1 c.2, c.3);
          };
      underway =
          λ d i. let u = a.underway d i in record { from = u.from; ticks = u.ticks; put = inr u.put; left = u.left; more = u.more };
      awaited = λ from w ticks j p hj h. a.awaited from w ticks j (older from w ticks p) hj h;
    }
  where
    older : (from : ℕ) (w : Version) (ticks : ℕ) → PutAgo (did_put site v (Err e) ∷ ds) from w ticks → PutAgo ds from w ticks
    older from w ticks (inl p) = let refused = p.0 in cc
    older from w ticks (inr p) = p

-- what an accepted one leaves
arrived_put : (ts : List ℕ) (ds : List Deed) (s : ReplicasState) (site : ℕ) (v : Version) → Arrived ts ds s
    → Arrived ts (did_put site v (Ok tt) ∷ ds) (after_put s site v)
arrived_put ts ds s site v a =
    record {
      lines = a.lines;
      highest = record { holds_what_came = came; holds_the_highest = highest };
      underway = underway;
      awaited = awaited;
    }
  where
    t : Sites
    t = s.registers

    now : Deed
    now = did_put site v (Ok tt)

    sent : List Delivery
    sent = sent_below sites s.times site v

    line : (j : ℕ) → line_time s.times site j ≡ line_time ts site j
    line j = ap (λ (l : List ℕ). line_time l site j) a.lines

    old : (j k : ℕ) (w : Version) → j < sites → k < keys → t j k ≡ Some w → HasReached ts (now ∷ ds) j w × (w.key ≡ k)
    old j k w hj hk f = let r = a.highest.holds_what_came j k w hj hk f in ((r.0.0, r.0.1, inr r.0.2, r.0.3), r.1)

    came : (j k : ℕ) (w : Version) → j < sites → k < keys → put_now s.times site v t j k ≡ Some w → HasReached ts (now ∷ ds) j w × (w.key ≡ k)
    came j k w hj hk f =
        ⊎_elim (old j k w hj hk)
        (λ new. ((site, 0, inl (refl, refl, new.0, refl), omega (arith, new.2, line j)), ap (λ (x : Version). x.key) new.0 ∙ new.1))
        (put_one s.times site v t j k w f)

    highest : (j : ℕ) (w : Version) → j < sites → HasReached ts (now ∷ ds) j w → w.stamp.number ≤ held_stamp (put_now s.times site v t j w.key)
    highest j w hj c =
        ⊎_elim
        (λ p. let near : line_time s.times site j ≡ 0 = omega (arith, line j, ap (λ (x : ℕ). line_time ts x j) p.1, c.3, p.3) in
        subst (λ (x : Version). x.stamp.number ≤ held_stamp (put_now s.times site v t j x.key)) (sym p.2) (put_highest s.times site v t j hj near))
        (λ p. omega (arith, a.highest.holds_the_highest j w hj (c.0, c.1, p, c.3), put_stamp s.times site v t j w.key hj)) c.2

    underway : (d : Delivery) → In d (s.deliveries ++ sent) → Underway ts (now ∷ ds) d
    underway d i =
        ⊎_elim
        (λ l. let u = a.underway d l in record { from = u.from; ticks = u.ticks; put = inr u.put; left = u.left; more = u.more })
        (λ r. let p = from_sent sites s.times site v d r in
        record { from = site; ticks = 0; put = inl (refl, refl, p.0, refl); left = omega (arith, p.2, line d.site); more = p.3 })
        (in_either d s.deliveries sent i)

    awaited : (from : ℕ) (w : Version) (ticks j : ℕ) → PutAgo (now ∷ ds) from w ticks → j < sites → ticks < line_time ts from j
        → In (awaited_one ts from w ticks j) (s.deliveries ++ sent)
    awaited from w ticks j (inl p) hj h =
        let same : line_time ts from j - ticks ≡ line_time s.times site j = omega (arith, line j, ap (λ (x : ℕ). line_time ts x j) p.1, p.3) in
        let one = ap₂ {C = Delivery} (λ (x : Version) (n : ℕ). record { version = x; site = j; left = n }) p.2 same in
        in_right (awaited_one ts from w ticks j) s.deliveries sent (subst (λ (d : Delivery). In d sent) (sym one) (in_sent sites s.times site v j hj (λ z. omega (arith, z, same, h))))
    awaited from w ticks j (inr p) hj h = in_left (awaited_one ts from w ticks j) s.deliveries sent (a.awaited from w ticks j p hj h)

-- what a tick leaves
arrived_tick : (ts : List ℕ) (ds : List Deed) (s : ReplicasState) → Arrived ts ds s → Arrived ts (did_tick ∷ ds) (after_tick s)
arrived_tick ts ds s a =
    record {
      lines = a.lines;
      highest = record { holds_what_came = came; holds_the_highest = highest };
      underway = underway;
      awaited = awaited;
    }
  where
    t : Sites
    t = s.registers

    low : List Delivery
    low = map lowered s.deliveries

    come : List Delivery
    come = filter has_come low

    stay : List Delivery
    stay = filter (λ d. not (has_come d)) low

    came : (j k : ℕ) (w : Version) → j < sites → k < keys → delivered t come j k ≡ Some w → HasReached ts (did_tick ∷ ds) j w × (w.key ≡ k)
    came j k w hj hk f =
        ⊎_elim
        (λ old. let r = a.highest.holds_what_came j k w hj hk old in ((r.0.0, suc r.0.1, r.0.2, omega (arith, r.0.3)), r.1))
        (λ new. let q = from_come s.deliveries new.0 new.1 in
        let u = a.underway q.0 q.1 in
        let w_is : w ≡ q.0.version = new.2 ∙ ap (λ (d : Delivery). d.version) q.2 in
        let at : q.0.site ≡ j = ap (λ (d : Delivery). d.site) (sym q.2) ∙ new.3 in
        let gone : q.0.left - 1 ≡ 0 = ap (λ (d : Delivery). d.left) (sym q.2) ∙ q.3 in
        let long = ap (line_time ts u.from) at in
        ((u.from, suc u.ticks, subst (λ (x : Version). PutAgo ds u.from x u.ticks) (sym w_is) u.put, omega (arith, gone, long, u.left)), new.4))
        (delivered_one t come j k w f)

    highest : (j : ℕ) (w : Version) → j < sites → HasReached ts (did_tick ∷ ds) j w → w.stamp.number ≤ held_stamp (delivered t come j w.key)
    highest j w hj c = of_ticks c.1 c.2 c.3
      where
        of_ticks : (ticks : ℕ) → PutAgo (did_tick ∷ ds) c.0 w ticks → line_time ts c.0 j ≤ ticks → w.stamp.number ≤ held_stamp (delivered t come j w.key)
        of_ticks zero p h = absurd p
        of_ticks (suc ticks) p h =
            ⊎_elim
            (λ now. let one = lowered (awaited_one ts c.0 w ticks j) in
            let gone : one.left ≡ 0 = omega (arith, h, now) in
            let i = in_kept has_come one low (in_map lowered (awaited_one ts c.0 w ticks j) s.deliveries (a.awaited c.0 w ticks j p hj now)) (eq-eqb one.left 0 gone) in
            omega (arith, way_member j w.key one come i refl refl, delivered_stamp t come j w.key))
            (λ before. omega (arith, a.highest.holds_the_highest j w hj (c.0, ticks, p, before), delivered_stamp t come j w.key))
            (cases_lt ticks (line_time ts c.0 j))

    underway : (d : Delivery) → In d stay → Underway ts (did_tick ∷ ds) d
    underway d i =
        let r = from_stay s.deliveries d i in
        let u = a.underway r.0 r.1 in
        let one = ap (λ (x : Delivery). x.left) r.2 in
        let long = ap (λ (x : Delivery). line_time ts u.from x.site) r.2 in
        let more = r.3 in
        record {
          from = u.from;
          ticks = suc u.ticks;
          put = subst (λ (x : Version). PutAgo ds u.from x u.ticks) (ap (λ (x : Delivery). x.version) (sym r.2)) u.put;
          left = omega (arith, one, long, more, u.left);
          more = more;
        }

    awaited : (from : ℕ) (w : Version) (ticks j : ℕ) → PutAgo (did_tick ∷ ds) from w ticks → j < sites → ticks < line_time ts from j
        → In (awaited_one ts from w ticks j) stay
    awaited from w zero j p hj h = absurd p
    awaited from w (suc ticks) j p hj h =
        let less : line_time ts from j - ticks - 1 ≡ line_time ts from j - suc ticks = omega arith in
        let one = ap {B = Delivery} (λ (n : ℕ). record { version = w; site = j; left = n }) less in
        let before = in_map lowered (awaited_one ts from w ticks j) s.deliveries (a.awaited from w ticks j p hj (omega (arith, h))) in
        in_kept (λ d. not (has_come d)) (awaited_one ts from w (suc ticks) j) low (subst (λ (d : Delivery). In d low) one before)
        (not_from_false (has_come (awaited_one ts from w (suc ticks) j)) (ne_eqb (line_time ts from j - suc ticks) 0 (λ z. omega (arith, z, h))))

-- so it holds after any run
arrived : (ts : List ℕ) (ds : List Deed) (s : ReplicasState) → Ran replicas_kind (replicas_start ts) ds s → Arrived ts ds s
arrived ts [] s e = subst (Arrived ts []) (sym e) (arrived_start ts)
arrived ts (did_tick ∷ ds) s (u, r, e) = subst (Arrived ts (did_tick ∷ ds)) (sym e) (arrived_tick ts ds u (arrived ts ds u r))
arrived ts (did_put site v answer ∷ ds) s (u, r, refused_unfit out e l) =
    subst (λ (x : PutAnswer). Arrived ts (did_put site v x ∷ ds) s) (sym e) (subst (Arrived ts (did_put site v (Err _) ∷ ds)) (sym l) (arrived_refused ts ds u site v _ (arrived ts ds u r)))
arrived ts (did_put site v answer ∷ ds) s (u, r, refused_barred within b f e l) =
    subst (λ (x : PutAnswer). Arrived ts (did_put site v x ∷ ds) s) (sym e) (subst (Arrived ts (did_put site v (Err _) ∷ ds)) (sym l) (arrived_refused ts ds u site v _ (arrived ts ds u r)))
arrived ts (did_put site v answer ∷ ds) s (u, r, put_accepted within f e l) =
    subst (λ (x : PutAnswer). Arrived ts (did_put site v x ∷ ds) s) (sym e) (subst (Arrived ts (did_put site v (Ok tt) ∷ ds)) (sym l) (arrived_put ts ds u site v (arrived ts ds u r)))

pub replicas_law : ReplicasLaw
replicas_law ts ds s run = (arrived ts ds s run).highest
