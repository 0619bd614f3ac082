-- What is said of all numbers below n at once, and what it says of each.
use Rattle.std.proofs.Common.{◌≡◌, ℕ, zero, suc, ◌+◌, ◌<◌, ◌≤◌, max, Bool, true, false, cond, not, ◌&&◌, eqb, ◌⊎◌, Decides, sym, refl, ap, ◌∙◌, ap₂, inl, inr, ⊎_elim, arith}
use Rattle.std.proofs.lemmas.Bool.{cases_Bool, cases_eq, cases_lt, and_cases, and_left, and_parts, both_ways, eq-eqb, not_from_true}
use Rattle.std.proofs.lemmas.Bool.Decides.{Decides-below_and}
use Rattle.stamps.specs.Keys.{every_below, count_below, highest_below}

every_decides : (n : ℕ) (p : ℕ → Bool) → Decides (every_below n p) ((k : ℕ) → k < n → p k ≡ true)
unfolding every_below
every_decides n p = Decides-below_and p (λ k. p k ≡ true) (λ m. every_below m p) (λ k. (λ e. e, λ e. e)) refl (λ _. refl) n

pub every_at : (n : ℕ) (p : ℕ → Bool) → every_below n p ≡ true → (k : ℕ) → k < n → p k ≡ true
every_at n p = (every_decides n p).0

pub every_from : (n : ℕ) (p : ℕ → Bool) → ((k : ℕ) → k < n → p k ≡ true) → every_below n p ≡ true
every_from n p = (every_decides n p).1

-- a test that fails below n is not passed by all
pub every_not : (n : ℕ) (p : ℕ → Bool) (k : ℕ) → k < n → p k ≡ false → every_below n p ≡ false
every_not n p k h f = elim (cases_Bool (every_below n p)) [ inl e ↦ absurd (both_ways (p k) f (every_at n p e k h)) | inr e ↦ e ]

-- tests that agree below n pass alike
pub every_same : (n : ℕ) (p q : ℕ → Bool) → ((k : ℕ) → k < n → p k ≡ q k) → every_below n p ≡ every_below n q
unfolding every_below
every_same zero p q h = refl
every_same (suc n) p q h = ap₂ ◌&&◌ (h n (omega arith)) (every_same n p q (λ k l. h k (omega arith)))

-- what a test adds to a count
abbrev one : Bool → ℕ
one b = cond b 1 0

one_le : (a b : Bool) → (a ≡ true → b ≡ true) → one a ≤ one b
one_le true b h = rw (h refl) (omega arith)
one_le false b h = omega arith

-- where not all pass, one fails
pub every_fails : (n : ℕ) (p : ℕ → Bool) → every_below n p ≡ false → (k : ℕ) × (k < n) × (p k ≡ false)
unfolding every_below
every_fails zero p e = absurd (both_ways true e refl)
every_fails (suc n) p e =
    ⊎_elim (λ f. (n, omega arith, f)) (λ f. let r = every_fails n p f in (r.0, omega (arith, r.1), r.2)) (and_cases (p n) (every_below n p) e)

pub count_same : (n : ℕ) (p q : ℕ → Bool) → ((k : ℕ) → k < n → p k ≡ q k) → count_below n p ≡ count_below n q
unfolding count_below
count_same zero p q h = refl
count_same (suc n) p q h = ap₂ (λ (b : Bool) (m : ℕ). one b + m) (h n (omega arith)) (count_same n p q (λ k l. h k (omega arith)))

pub count_none : (n : ℕ) (p : ℕ → Bool) → ((k : ℕ) → k < n → p k ≡ false) → count_below n p ≡ 0
unfolding count_below
count_none zero p h = refl
count_none (suc n) p h = omega (arith, ap one (h n (omega arith)), count_none n p (λ k l. h k (omega arith)))

-- a test that passes wherever another does passes at least as often
pub count_le : (n : ℕ) (p q : ℕ → Bool) → ((k : ℕ) → k < n → p k ≡ true → q k ≡ true) → count_below n p ≤ count_below n q
unfolding count_below
count_le zero p q h = omega arith
count_le (suc n) p q h = omega (arith, one_le (p n) (q n) (h n (omega arith)), count_le n p q (λ k l. h k (omega arith)))

-- and more often where it passes at some j at which the other fails
pub count_less : (n : ℕ) (p q : ℕ → Bool) → ((k : ℕ) → k < n → p k ≡ true → q k ≡ true)
    → (j : ℕ) → j < n → p j ≡ false → q j ≡ true → count_below n p < count_below n q
unfolding count_below
count_less zero p q h j l off on = omega arith
count_less (suc n) p q h j l off on =
    let rest : (k : ℕ) → k < n → p k ≡ true → q k ≡ true = λ k m. h k (omega arith) in
    elim (cases_eq j n) [
      | inl e ↦ omega (arith, ap one (ap p (sym e) ∙ off), ap one (ap q (sym e) ∙ on), count_le n p q rest)
      | inr ne ↦ omega (arith, one_le (p n) (q n) (h n (omega arith)), count_less n p q rest j (omega arith) off on)
    ]

-- striking out a number that passes lowers the count
pub count_struck : (n : ℕ) (all less : ℕ → Bool) (key : ℕ) → ((k : ℕ) → less k ≡ (not (eqb k key) && all k)) → key < n → all key ≡ true
    → count_below n less < count_below n all
count_struck n all less key strikes within there =
    count_less n less all (λ k l t. (and_parts (not (eqb k key)) (all k) (sym (strikes k) ∙ t)).1) key within
    (strikes key ∙ and_left (not (eqb key key)) (all key) (not_from_true (eqb key key) (eq-eqb key key refl))) there

-- where a test passes, one of two others does, and nowhere else: their counts add up to its count
pub count_split : (n : ℕ) (p q r : ℕ → Bool) → ((k : ℕ) → k < n → cond (p k) 1 0 ≡ cond (q k) 1 0 + cond (r k) 1 0)
    → count_below n p ≡ count_below n q + count_below n r
unfolding count_below
count_split zero p q r h = refl
count_split (suc n) p q r h = omega (arith, h n (omega arith), count_split n p q r (λ k l. h k (omega arith)))

pub count_bound : (n : ℕ) (p : ℕ → Bool) → count_below n p ≤ n
unfolding count_below
count_bound zero p = omega arith
count_bound (suc n) p = omega (arith, one_le (p n) true (λ _. refl), count_bound n p)

pub highest_bound : (n : ℕ) (f : ℕ → ℕ) (k : ℕ) → k < n → f k ≤ highest_below n f
unfolding highest_below
highest_bound zero f k l = omega arith
highest_bound (suc n) f k l =
    elim (cases_eq k n) [ inl e ↦ omega (arith, ap f e) | inr ne ↦ omega (arith, highest_bound n f k (omega arith)) ]

pub highest_least : (n : ℕ) (f : ℕ → ℕ) (b : ℕ) → ((k : ℕ) → k < n → f k ≤ b) → highest_below n f ≤ b
unfolding highest_below
highest_least zero f b h = omega arith
highest_least (suc n) f b h = omega (arith, h n (omega arith), highest_least n f b (λ k l. h k (omega arith)))

pub highest_same : (n : ℕ) (f g : ℕ → ℕ) → ((k : ℕ) → k < n → f k ≡ g k) → highest_below n f ≡ highest_below n g
unfolding highest_below
highest_same zero f g h = refl
highest_same (suc n) f g h = ap₂ max (h n (omega arith)) (highest_same n f g (λ k l. h k (omega arith)))

-- the highest number is 0, or it is the number at some k
pub highest_reached : (n : ℕ) (f : ℕ → ℕ) → (highest_below n f ≡ 0) ⊎ ((k : ℕ) × (k < n) × (f k ≡ highest_below n f))
unfolding highest_below
highest_reached zero f = inl refl
highest_reached (suc n) f = elim (cases_lt (f n) (highest_below n f)) [
  | inl l ↦ elim (highest_reached n f) [ inl e ↦ inl (omega arith) | inr w ↦ inr (w.0, omega arith, omega arith) ]
  | inr l ↦ inr (n, omega arith, omega arith)
]
