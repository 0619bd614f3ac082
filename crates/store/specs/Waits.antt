-- Counting ticks.
use Rattle.std.specs.Prelude.{ℕ, ◌+◌, ◌-◌, ◌/◌}

-- a number divided by another, rounded up
abbrev pub divided_up : ℕ → ℕ → ℕ
divided_up n by = (n + (by - 1)) / by
