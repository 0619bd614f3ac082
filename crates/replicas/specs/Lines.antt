-- Line times: how many ticks a version takes from site to site.
use Rattle.std.specs.Prelude.{◌≡◌, ℕ, ◌+◌, ◌-◌, ◌≤◌, min, max, cond, List, ◌==◌, slice_index}
use Rattle.replicas.specs.Numbers.{line_limit}

-- the place of a pair of sites, lower site first, in the order 01, 02, 03, 12, 13, 23
abbrev pub pair_place : ℕ → ℕ → ℕ
pair_place low high = cond (low == 0) (high - 1) (cond (low == 1) (high + 1) 5)

-- so the six pairs have the places 0 to 5
pub record PairsInOrder : Type 0 where
  pub place_of_01 : pair_place 0 1 ≡ 0
  pub place_of_02 : pair_place 0 2 ≡ 1
  pub place_of_03 : pair_place 0 3 ≡ 2
  pub place_of_12 : pair_place 1 2 ≡ 3
  pub place_of_13 : pair_place 1 3 ≡ 4
  pub place_of_23 : pair_place 2 3 ≡ 5

-- the line time between two sites, of the times of the six pairs; 0 from a site to itself
abbrev pub line_time : List ℕ → ℕ → ℕ → ℕ
line_time times a b = cond (a == b) 0 (slice_index times (pair_place (min a b) (max a b)))

-- line times are 0 to 16
abbrev pub TimesFit : List ℕ → Type 0
TimesFit times = (i : ℕ) → slice_index times i ≤ line_limit
