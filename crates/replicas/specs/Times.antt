-- The line times of the code.
use Rattle.std.specs.Prelude.{ℕ, List}
use Rattle.replicas.specs.declared.line_times.LineTimes.{LineTimes}

-- the times of the six pairs
abbrev pub times_of : LineTimes → List ℕ
times_of l = l.times
