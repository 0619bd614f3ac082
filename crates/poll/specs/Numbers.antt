-- The numbers of the poll layer, once. src/limits.rt has the same numbers for the code.
use Rattle.std.specs.Prelude.{ℕ, ◌≤◌}

-- a period is 1 to 8 ticks
abbrev pub period_limit : ℕ
period_limit = 8

-- a number of ticks is in range for a period
abbrev pub InPeriodRange : ℕ → Type 0
InPeriodRange ticks = (1 ≤ ticks) × (ticks ≤ period_limit)
