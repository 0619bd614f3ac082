-- The lowest position.
use Rattle.std.specs.Prelude.{◌≡◌, ℕ, zero, suc, ◌-◌, ◌<◌, ◌≤◌, refl}
use Rattle.std.proofs.Common.{⊎_elim, arith}
use Rattle.std.proofs.lemmas.Bool.{cases_lt}
use Rattle.stamps.specs.Numbers.{sites}
use Rattle.shared_log.specs.Log.{lowest_up_to, lowest_at}

-- the lowest is not above any
lowest_bound : (n : ℕ) (f : ℕ → ℕ) (k : ℕ) → k ≤ n → lowest_up_to n f ≤ f k
unfolding lowest_up_to
lowest_bound zero f k h = grind arith
lowest_bound (suc n) f k h = grind (arith, lowest_bound n f k)

-- and is one of them
lowest_reached : (n : ℕ) (f : ℕ → ℕ) → (k : ℕ) × (k ≤ n) × (f k ≡ lowest_up_to n f)
unfolding lowest_up_to
lowest_reached zero f = (0, omega arith, refl)
lowest_reached (suc n) f =
    let r = lowest_reached n f in
    ⊎_elim (λ l. (suc n, omega arith, omega arith)) (λ l. (r.0, omega arith, omega arith)) (cases_lt (f (suc n)) (lowest_up_to n f))

-- lowered all alike, the lowest is lowered so too
lowest_less : (n c : ℕ) (f : ℕ → ℕ) → lowest_up_to n (λ k. f k - c) ≡ lowest_up_to n f - c
unfolding lowest_up_to
lowest_less zero c f = refl
lowest_less (suc n) c f = omega (arith, lowest_less n c f)

-- so it is with the lowest at any site
pub lowest_at_most : (f : ℕ → ℕ) (site : ℕ) → site < sites → lowest_at f ≤ f site
lowest_at_most f site h = lowest_bound (sites - 1) f site (omega (arith, h))

pub lowest_at_reached : (f : ℕ → ℕ) → (site : ℕ) × (site < sites) × (f site ≡ lowest_at f)
lowest_at_reached f = let r = lowest_reached (sites - 1) f in (r.0, omega (arith, r.1), r.2)

pub lowest_at_less : (c : ℕ) (f : ℕ → ℕ) → lowest_at (λ site. f site - c) ≡ lowest_at f - c
lowest_at_less c f = lowest_less (sites - 1) c f

-- a number that no site's is below, and that is some site's, is the lowest
pub lowest_is : (f : ℕ → ℕ) (r : ℕ) → ((site : ℕ) → site < sites → r ≤ f site) → (site : ℕ) × (site < sites) × (f site ≡ r) → r ≡ lowest_at f
lowest_is f r none_below one =
    let reached = lowest_at_reached f in omega (arith, none_below reached.0 reached.1, reached.2, lowest_at_most f one.0 one.1, one.2)
