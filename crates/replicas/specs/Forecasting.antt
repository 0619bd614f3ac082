-- Members of lists of deliveries, and what a put and a tick do to registers, deliveries and forecasts.
use Rattle.std.specs.Prelude.{◌≡◌, ℕ, zero, suc, ◌<◌, ◌≤◌, max, Bool, true, false, cond, not, ◌&&◌, ◌⊎◌, List, [], ◌∷◌, ◌++◌, map, Some, filter, ◌==◌, nat_lt, ◌≢◌, refl}
use Rattle.std.proofs.Common.{inl, inr, ⊎_elim, sym, ap, subst, ◌∙◌, arith}
use Rattle.std.proofs.lemmas.Bool.{both_ways, cases_eq, cond-true, cond_both, eq-eqb, eqb-false}
use Rattle.std.proofs.lemmas.Bool.Decides.{nat_tests}
use Rattle.stamps.specs.Numbers.{sites}
use Rattle.versions.specs.Joins.{In}
use Rattle.versions.specs.declared.version.Version.{Version}
use Rattle.causal.specs.Tables.{held_stamp}
use Rattle.store.specs.Registers.{Sites, came_to, came_at}
use Rattle.store.proofs.Keeping.{in_left, in_right, in_either}
use Rattle.replicas.specs.Lines.{line_time}
use Rattle.replicas.specs.Replicas.{delivered, forecast, has_come, lowered, on_the_way, put_now, sent_below, sent_later}
use Rattle.replicas.specs.declared.delivery.Delivery.{Delivery}
use Rattle.replicas.specs.Sending.{later_one}

-- a choice of two functions, at an argument
pub cond_at : {A B : Type 0} (b : Bool) (f g : A → B) (x : A) → cond b f g x ≡ cond b (f x) (g x)
cond_at true f g x = refl
cond_at false f g x = refl

-- members of what a filter keeps
pub in_kept : {X : Type 0} (p : X → Bool) (x : X) (xs : List X) → In x xs → p x ≡ true → In x (filter p xs)
in_kept p x [] i e = i
in_kept p x (y ∷ xs) i e =
    cond_both (p y) (y ∷ filter p xs) (filter p xs) (λ l. In x l) (λ t. ⊎_elim (λ s. inl s) (λ j. inr (in_kept p x xs j e)) i)
    (λ f. ⊎_elim (λ s. absurd (both_ways (p y) f (ap p (sym s) ∙ e))) (λ j. in_kept p x xs j e) i)

pub from_kept : {X : Type 0} (p : X → Bool) (x : X) (xs : List X) → In x (filter p xs) → In x xs × (p x ≡ true)
from_kept p x [] i = absurd i
from_kept p x (y ∷ xs) i =
    cond_both (p y) (y ∷ filter p xs) (filter p xs) (λ l. In x l → In x (y ∷ xs) × (p x ≡ true))
    (λ t j. ⊎_elim (λ s. (inl s, ap p s ∙ t)) (λ k. let r = from_kept p x xs k in (inr r.0, r.1)) j)
    (λ f j. let r = from_kept p x xs j in (inr r.0, r.1)) i

-- the stamp of a version that is of a key
abbrev pub stamp_of : ℕ → Version → ℕ
stamp_of key v = cond (v.key == key) v.stamp.number 0

pub stamp_of_own : (key : ℕ) (v : Version) → v.key ≡ key → stamp_of key v ≡ v.stamp.number
stamp_of_own key v e = grind (arith, nat_tests)

pub stamp_of_other : (key : ℕ) (v : Version) → (v.key ≢ key) → stamp_of key v ≡ 0
stamp_of_other key v ne = grind (arith, nat_tests)

-- of a delivery, at a site and key
abbrev pub way_of : ℕ → ℕ → Delivery → ℕ
way_of s k d = cond (d.site == s && d.version.key == k) d.version.stamp.number 0

-- at its own site it is the stamp of its version
pub way_here : (s k : ℕ) (d : Delivery) → d.site ≡ s → way_of s k d ≡ stamp_of k d.version
way_here s k d e = grind (arith, nat_tests)

-- and at another it is none
pub way_there : (s k : ℕ) (d : Delivery) → (d.site ≢ s) → way_of s k d ≡ 0
way_there s k d ne = grind (arith, nat_tests)

-- a register holds what it held, or what came to it, and has the higher of both stamps
pub came_one : (t : Sites) (d : Delivery) (s k : ℕ) (w : Version) → came_at t d.site d.version s k ≡ Some w
    → (t s k ≡ Some w) ⊎ ((w ≡ d.version) × (d.site ≡ s) × (d.version.key ≡ k))
came_one t d s k w e = let at = simp cond_at at e in grind (arith, nat_tests)

pub came_stamp : (t : Sites) (d : Delivery) (s k : ℕ) → held_stamp (came_at t d.site d.version s k) ≡ max (held_stamp (t s k)) (way_of s k d)
came_stamp t d s k = simp cond_at (grind (arith, nat_tests))

-- registers after deliveries: the stamps
pub delivered_stamp : (t : Sites) (xs : List Delivery) (s k : ℕ) → held_stamp (delivered t xs s k) ≡ max (held_stamp (t s k)) (on_the_way s k xs)
delivered_stamp t [] s k = omega arith
delivered_stamp t (d ∷ xs) s k = omega (arith, delivered_stamp (came_at t d.site d.version) xs s k, came_stamp t d s k)

-- and what they hold
pub delivered_one : (t : Sites) (xs : List Delivery) (s k : ℕ) (w : Version) → delivered t xs s k ≡ Some w
    → (t s k ≡ Some w) ⊎ ((d : Delivery) × In d xs × (w ≡ d.version) × (d.site ≡ s) × (w.key ≡ k))
delivered_one t [] s k w e = inl e
delivered_one t (d ∷ xs) s k w e =
    ⊎_elim
    (λ at. ⊎_elim (λ old. inl old) (λ new. inr (d, inl refl, new.0, new.1, ap (λ (x : Version). x.key) new.0 ∙ new.2)) (came_one t d s k w at))
    (λ r. inr (r.0, inr r.1, r.2, r.3, r.4)) (delivered_one (came_at t d.site d.version) xs s k w e)

-- registers after a put: the stamps
pub put_stamp : (ts : List ℕ) (site : ℕ) (v : Version) (t : Sites) (s k : ℕ) → s < sites
    → held_stamp (put_now ts site v t s k) ≡ max (held_stamp (t s k)) (cond (line_time ts site s == 0) (stamp_of k v) 0)
put_stamp ts site v t s k h = at (line_time ts site s)
  where
    at : (line : ℕ) → held_stamp (cond (nat_lt s sites && line == 0) (came_to (t s) v) (t s) k) ≡ max (held_stamp (t s k)) (cond (line == 0) (stamp_of k v) 0)
    at line = simp cond_at (grind (arith, nat_tests))

pub put_highest : (ts : List ℕ) (site : ℕ) (v : Version) (t : Sites) (s : ℕ) → s < sites → line_time ts site s ≡ 0
    → v.stamp.number ≤ held_stamp (put_now ts site v t s v.key)
put_highest ts site v t s h near = at (line_time ts site s) near (put_stamp ts site v t s v.key h)
  where
    at : (line : ℕ) → line ≡ 0 → held_stamp (put_now ts site v t s v.key) ≡ max (held_stamp (t s v.key)) (cond (line == 0) (stamp_of v.key v) 0)
        → v.stamp.number ≤ held_stamp (put_now ts site v t s v.key)
    at line z e = let own = stamp_of_own v.key v refl in let all = cond-true (line == 0) (stamp_of v.key v) 0 (eq-eqb line 0 z) in omega arith

-- and what they hold
pub put_one : (ts : List ℕ) (site : ℕ) (v : Version) (t : Sites) (s k : ℕ) (w : Version) → put_now ts site v t s k ≡ Some w
    → (t s k ≡ Some w) ⊎ ((w ≡ v) × (v.key ≡ k) × (line_time ts site s ≡ 0))
put_one ts site v t s k w e = at (line_time ts site s) e
  where
    at : (line : ℕ) → cond (nat_lt s sites && line == 0) (came_to (t s) v) (t s) k ≡ Some w → (t s k ≡ Some w) ⊎ ((w ≡ v) × (v.key ≡ k) × (line ≡ 0))
    at line f = let g = simp cond_at at f in grind (arith, nat_tests)

-- what is on its way: two lists in a row, lowered, and a list parted by a test
pub way_append : (s k : ℕ) (xs ys : List Delivery) → on_the_way s k (xs ++ ys) ≡ max (on_the_way s k xs) (on_the_way s k ys)
way_append s k [] ys = omega arith
way_append s k (x ∷ xs) ys = omega (arith, way_append s k xs ys)

pub way_lowered : (s k : ℕ) (xs : List Delivery) → on_the_way s k (map lowered xs) ≡ on_the_way s k xs
way_lowered s k [] = refl
way_lowered s k (x ∷ xs) = ap (λ (n : ℕ). max (way_of s k x) n) (way_lowered s k xs)

pub way_parted : (p : Delivery → Bool) (s k : ℕ) (xs : List Delivery)
    → on_the_way s k xs ≡ max (on_the_way s k (filter p xs)) (on_the_way s k (filter (λ d. not (p d)) xs))
way_parted p s k [] = omega arith
way_parted p s k (x ∷ xs) =
    let rest = way_parted p s k xs in
    let keep : Bool → List Delivery → List Delivery = λ b l. cond b (x ∷ l) l in
    elim (p x) as (λ b. on_the_way s k (x ∷ xs) ≡ max (on_the_way s k (keep b (filter p xs))) (on_the_way s k (keep (not b) (filter (λ d. not (p d)) xs)))) [
      | true ↦ omega arith
      | false ↦ omega arith
    ]

-- each member of a list is on its way
pub way_member : (s k : ℕ) (d : Delivery) (xs : List Delivery) → In d xs → d.site ≡ s → d.version.key ≡ k → d.version.stamp.number ≤ on_the_way s k xs
way_member s k d [] i es ek = absurd i
way_member s k d (x ∷ xs) (inl e) es ek = let here = ap (way_of s k) e in grind (arith, nat_tests)
way_member s k d (x ∷ xs) (inr i) es ek = omega (arith, way_member s k d xs i es ek)

-- a tick leaves forecasts as they are
pub tick_forecast : (t : Sites) (ds : List Delivery) (s k : ℕ)
    → forecast (delivered t (filter has_come (map lowered ds))) (filter (λ d. not (has_come d)) (map lowered ds)) s k ≡ forecast t ds s k
tick_forecast t ds s k =
    omega (arith, delivered_stamp t (filter has_come (map lowered ds)) s k, way_parted has_come s k (map lowered ds), way_lowered s k ds)

-- what is sent to a site later is on its way there alone
later_way : (ticks n : ℕ) (v : Version) (s k : ℕ) → on_the_way s k (sent_later ticks n v) ≡ cond (n == s && not (ticks == 0)) (stamp_of k v) 0
later_way ticks n v s k =
    cond_both (ticks == 0) [] (record { version = v; site = n; left = ticks } ∷ []) (λ l. on_the_way s k l ≡ cond (n == s && not (ticks == 0)) (stamp_of k v) 0)
    (λ e. grind (arith, nat_tests)) (λ e. grind (arith, nat_tests))

-- of the sites below n, a put's version is on its way to those where the line takes ticks
sent_way : (n : ℕ) (ts : List ℕ) (site : ℕ) (v : Version) (s k : ℕ)
    → on_the_way s k (sent_below n ts site v) ≡ cond (nat_lt s n && not (line_time ts site s == 0)) (stamp_of k v) 0
unfolding sent_below
sent_way zero ts site v s k = grind (arith, nat_tests)
sent_way (suc n) ts site v s k =
    at (line_time ts site) _ _ _ (way_append s k (sent_below n ts site v) (sent_later (line_time ts site n) n v)) (sent_way n ts site v s k)
    (later_way (line_time ts site n) n v s k)
  where
    at : (line : ℕ → ℕ) (all below own : ℕ) → all ≡ max below own → below ≡ cond (nat_lt s n && not (line s == 0)) (stamp_of k v) 0
        → own ≡ cond (n == s && not (line n == 0)) (stamp_of k v) 0 → all ≡ cond (nat_lt s (suc n) && not (line s == 0)) (stamp_of k v) 0
    at line all below own p q r = grind (arith, nat_tests)

-- an accepted put raises every site's forecast of its key to its stamp
pub put_forecast : (ts : List ℕ) (site : ℕ) (v : Version) (t : Sites) (ds : List Delivery) (s k : ℕ) → s < sites
    → forecast (put_now ts site v t) (ds ++ sent_below sites ts site v) s k ≡ max (forecast t ds s k) (stamp_of k v)
put_forecast ts site v t ds s k h =
    at (line_time ts site s) _ _ _ (put_stamp ts site v t s k h) (way_append s k ds (sent_below sites ts site v)) (sent_way sites ts site v s k)
  where
    at : (line held all sent : ℕ) → held ≡ max (held_stamp (t s k)) (cond (line == 0) (stamp_of k v) 0) → all ≡ max (on_the_way s k ds) sent
        → sent ≡ cond (nat_lt s sites && not (line == 0)) (stamp_of k v) 0 → max held all ≡ max (forecast t ds s k) (stamp_of k v)
    at line held all sent p q r = grind (arith, nat_tests)

-- what is sent to a site later
from_later : (ticks n : ℕ) (v : Version) (d : Delivery) → In d (sent_later ticks n v) → (d ≡ record { version = v; site = n; left = ticks }) × (ticks ≢ 0)
from_later ticks n v d i =
    cond_both (ticks == 0) [] (x ∷ []) (λ l. In d l → (d ≡ x) × (ticks ≢ 0)) (λ e j. absurd j)
    (λ e j. (⊎_elim (λ s. s) (λ z. absurd z) j, eqb-false ticks 0 e)) i
  where
    x : Delivery
    x = record { version = v; site = n; left = ticks }

-- the deliveries of a put: of its version, to sites below n, with the whole line time left
pub from_sent : (n : ℕ) (ts : List ℕ) (site : ℕ) (v : Version) (d : Delivery) → In d (sent_below n ts site v)
    → (d.version ≡ v) × (d.site < n) × (d.left ≡ line_time ts site d.site) × (d.left ≢ 0)
unfolding sent_below
from_sent zero ts site v d i = absurd i
from_sent (suc n) ts site v d i =
    ⊎_elim (λ l. let r = from_sent n ts site v d l in (r.0, omega (arith, r.1), r.2, r.3))
    (λ r. let q = from_later (line_time ts site n) n v d r in
    subst (λ (x : Delivery). (x.version ≡ v) × (x.site < suc n) × (x.left ≡ line_time ts site x.site) × (x.left ≢ 0)) (sym q.0) (refl, omega arith, refl, q.1))
    (in_either d (sent_below n ts site v) (sent_later (line_time ts site n) n v) i)

-- and there is one to every site below n where the line takes ticks
pub in_sent : (n : ℕ) (ts : List ℕ) (site : ℕ) (v : Version) (s : ℕ) → s < n → (line_time ts site s ≢ 0)
    → In (record { version = v; site = s; left = line_time ts site s }) (sent_below n ts site v)
unfolding sent_below
in_sent zero ts site v s h far = absurd (omega (arith, h))
in_sent (suc n) ts site v s h far =
    ⊎_elim
    (λ e. in_right (sent s) (sent_below n ts site v) (sent_later (line_time ts site n) n v)
    (subst (λ (j : ℕ). In (sent s) (sent_later (line_time ts site j) j v)) e (subst (λ (l : List Delivery). In (sent s) l) (sym (later_one (line_time ts site s) s v far)) (inl refl))))
    (λ ne. in_left (sent s) (sent_below n ts site v) (sent_later (line_time ts site n) n v) (in_sent n ts site v s (omega (arith, h, ne)) far)) (cases_eq s n)
  where
    sent : ℕ → Delivery
    sent j = record { version = v; site = j; left = line_time ts site j }
