-- The numbers of the log, once. src/limits.rt has the same numbers for the code.
use Rattle.std.specs.Prelude.{ℕ}

-- a stride is 1 to 8
abbrev pub stride_limit : ℕ
stride_limit = 8

-- the tail has at most 64 versions
abbrev pub tail_limit : ℕ
tail_limit = 64
