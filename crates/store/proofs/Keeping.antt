-- What is kept: members of lists, the versions in registers, the highest stamp of a key.
use Rattle.std.proofs.Common.{◌≡◌, ℕ, zero, suc, ◌<◌, ◌≤◌, max, cond, eqb, ◌⊎◌, List, [], ◌∷◌, ◌++◌, map, Some, None, Option, sym, refl, ap, ◌∙◌, inl, inr, ⊎_elim, arith}
use Rattle.std.specs.Option.{option_to_list}
use Rattle.std.proofs.lemmas.List.{append-nil}
use Rattle.std.proofs.lemmas.Bool.{cases_eq, cond-true, cond-false, eq-eqb, ne_eqb}
use Rattle.stamps.specs.Numbers.{keys}
use Rattle.versions.specs.Joins.{In}
use Rattle.versions.specs.declared.version.Version.{Version}
use Rattle.causal.specs.Tables.{Table}
use Rattle.causal.proofs.Tabling.{none_some, some_same}
use Rattle.store.specs.Registers.{Sites, held_below, all_held, held_at_below, highest_of_key}

-- members of two lists in a row
pub in_left : {X : Type 0} (x : X) (xs ys : List X) → In x xs → In x (xs ++ ys)
in_left x [] ys i = absurd i
in_left x (y ∷ xs) ys (inl e) = inl e
in_left x (y ∷ xs) ys (inr i) = inr (in_left x xs ys i)

pub in_right : {X : Type 0} (x : X) (xs ys : List X) → In x ys → In x (xs ++ ys)
in_right x [] ys i = i
in_right x (y ∷ xs) ys i = inr (in_right x xs ys i)

pub in_either : {X : Type 0} (x : X) (xs ys : List X) → In x (xs ++ ys) → In x xs ⊎ In x ys
in_either x [] ys i = inr i
in_either x (y ∷ xs) ys (inl e) = inl (inl e)
in_either x (y ∷ xs) ys (inr i) = ⊎_elim (λ l. inl (inr l)) (λ r. inr r) (in_either x xs ys i)

-- members of a mapped list
pub in_map : {X Y : Type 0} (f : X → Y) (x : X) (xs : List X) → In x xs → In (f x) (map f xs)
in_map f x [] i = absurd i
in_map f x (y ∷ xs) (inl e) = inl (ap f e)
in_map f x (y ∷ xs) (inr i) = inr (in_map f x xs i)

pub from_map : {X Y : Type 0} (f : X → Y) (y : Y) (xs : List X) → In y (map f xs) → (x : X) × In x xs × (y ≡ f x)
from_map f y [] i = absurd i
from_map f y (x ∷ xs) (inl e) = (x, inl refl, e)
from_map f y (x ∷ xs) (inr i) = let r = from_map f y xs i in (r.0, inr r.1, r.2)

-- what a register holds is its only version
in_listed : (v : Version) (o : Option Version) → o ≡ Some v → In v (option_to_list o)
in_listed v None e = absurd (none_some v e)
in_listed v (Some w) e = inl (sym (some_same w v e))

from_listed : (v : Version) (o : Option Version) → In v (option_to_list o) → o ≡ Some v
from_listed v None i = absurd i
from_listed v (Some w) (inr i) = absurd i
from_listed v (Some w) (inl e) = ap (λ (x : Version). Some x) (sym e)

-- what registers by key hold
pub in_held : (n : ℕ) (t : Table) (k : ℕ) (v : Version) → k < n → t k ≡ Some v → In v (held_below n t)
unfolding held_below
in_held zero t k v h e = absurd (omega (arith, h))
in_held (suc n) t k v h e =
    ⊎_elim (λ same. in_right v (held_below n t) (option_to_list (t n)) (in_listed v (t n) (ap t (sym same) ∙ e)))
    (λ ne. in_left v (held_below n t) (option_to_list (t n)) (in_held n t k v (omega (arith, h, ne)) e)) (cases_eq k n)

pub from_held : (n : ℕ) (t : Table) (v : Version) → In v (held_below n t) → (k : ℕ) × (k < n) × (t k ≡ Some v)
unfolding held_below
from_held zero t v i = absurd i
from_held (suc n) t v i =
    ⊎_elim (λ l. let r = from_held n t v l in (r.0, omega (arith, r.1), r.2)) (λ r. (n, omega arith, from_listed v (t n) r))
    (in_either v (held_below n t) (option_to_list (t n)) i)

-- what registers for each site and key hold
pub in_held_at : (n : ℕ) (t : Sites) (s k : ℕ) (v : Version) → s < n → k < keys → t s k ≡ Some v → In v (held_at_below n t)
unfolding held_at_below
in_held_at zero t s k v h hk e = absurd (omega (arith, h))
in_held_at (suc n) t s k v h hk e =
    ⊎_elim (λ same. in_right v (held_at_below n t) (all_held (t n)) (in_held keys (t n) k v hk (ap (λ (j : ℕ). t j k) (sym same) ∙ e)))
    (λ ne. in_left v (held_at_below n t) (all_held (t n)) (in_held_at n t s k v (omega (arith, h, ne)) hk e)) (cases_eq s n)

pub from_held_at : (n : ℕ) (t : Sites) (v : Version) → In v (held_at_below n t) → (s k : ℕ) × (s < n) × (k < keys) × (t s k ≡ Some v)
unfolding held_at_below
from_held_at zero t v i = absurd i
from_held_at (suc n) t v i =
    ⊎_elim (λ l. let r = from_held_at n t v l in (r.0, r.1, omega (arith, r.2), r.3, r.4))
    (λ q. let r = from_held keys (t n) v q in (n, r.0, omega arith, r.1, r.2)) (in_either v (held_at_below n t) (all_held (t n)) i)

-- nothing held makes an empty list
pub held_none : (n : ℕ) (t : Table) → ((k : ℕ) → t k ≡ None) → held_below n t ≡ []
unfolding held_below
held_none zero t empty = refl
held_none (suc n) t empty = ap (λ (o : Option Version). held_below n t ++ option_to_list o) (empty n) ∙ append-nil (held_below n t) ∙ held_none n t empty

pub held_at_none : (n : ℕ) (t : Sites) → ((s k : ℕ) → t s k ≡ None) → held_at_below n t ≡ []
unfolding held_at_below
held_at_none zero t empty = refl
held_at_none (suc n) t empty =
    ap (λ (xs : List Version). held_at_below n t ++ xs) (held_none keys (t n) (empty n)) ∙ append-nil (held_at_below n t) ∙ held_at_none n t empty

-- the highest stamp of a key: not below any member's
pub highest_at : (key : ℕ) (vs : List Version) (v : Version) → In v vs → v.key ≡ key → v.stamp.number ≤ highest_of_key key vs
highest_at key [] v i at = absurd i
highest_at key (w ∷ vs) v (inl e) at =
    let here : cond (eqb w.key key) w.stamp.number 0 ≡ v.stamp.number =
    cond-true (eqb w.key key) w.stamp.number 0 (eq-eqb w.key key (ap (λ (x : Version). x.key) (sym e) ∙ at)) ∙ ap (λ (x : Version). x.stamp.number) (sym e) in
    omega (arith, here)
highest_at key (w ∷ vs) v (inr i) at = omega (arith, highest_at key vs v i at)

-- and not above what bounds them all
pub highest_under : (key : ℕ) (vs : List Version) (b : ℕ) → ((v : Version) → In v vs → v.key ≡ key → v.stamp.number ≤ b) → highest_of_key key vs ≤ b
highest_under key [] b bounds = omega arith
highest_under key (w ∷ vs) b bounds =
    let rest = highest_under key vs b (λ v i at. bounds v (inr i) at) in
    ⊎_elim
    (λ at. omega (arith, rest, bounds w (inl refl) at, cond-true (eqb w.key key) w.stamp.number 0 (eq-eqb w.key key at)))
    (λ ne. omega (arith, rest, cond-false (eqb w.key key) w.stamp.number 0 (ne_eqb w.key key ne)))
    (cases_eq w.key key)

pub highest_append : (key : ℕ) (vs ws : List Version) → highest_of_key key (vs ++ ws) ≡ max (highest_of_key key vs) (highest_of_key key ws)
highest_append key [] ws = omega arith
highest_append key (v ∷ vs) ws = omega (arith, highest_append key vs ws)
