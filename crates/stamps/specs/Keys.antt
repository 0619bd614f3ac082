-- What is said of all keys at once.
use Rattle.std.specs.Prelude.{ℕ, zero, suc, ◌+◌, max, Bool, true, cond, ◌&&◌}
use Rattle.stamps.specs.Numbers.{keys}

-- the test passes at every number below n
unfoldable pub every_below : ℕ → (ℕ → Bool) → Bool
every_below zero p = true
every_below (suc n) p = p n && every_below n p

-- the test passes at every key
abbrev pub every_key : (ℕ → Bool) → Bool
every_key p = every_below keys p

-- how many numbers below n pass the test
unfoldable pub count_below : ℕ → (ℕ → Bool) → ℕ
count_below zero p = 0
count_below (suc n) p = cond (p n) 1 0 + count_below n p

-- the number of keys at which the test passes
abbrev pub count_keys : (ℕ → Bool) → ℕ
count_keys p = count_below keys p

-- the highest value at a number below n, 0 where there is none
unfoldable pub highest_below : ℕ → (ℕ → ℕ) → ℕ
highest_below zero f = 0
highest_below (suc n) f = max (f n) (highest_below n f)

-- the highest number at any key
abbrev pub highest_of : (ℕ → ℕ) → ℕ
highest_of f = highest_below keys f
