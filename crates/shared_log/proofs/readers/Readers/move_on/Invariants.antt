use Rattle.std.proofs.Common.{◌≡◌, ℕ, ◌+◌, ◌<◌, ◌≤◌, min, length}
use Rattle.stamps.specs.Numbers.{sites}
use Rattle.shared_log.specs.Holding.{read_in, stride_in}
use Rattle.shared_log.proofs.readers.Readers.move_on.Given as goal

-- the readers so far have moved on, and the others stand as they stood
abbrev pub invariant-loop-reader : goal.invariant-loop-reader
invariant-loop-reader l = record {
  sized : length l.reader-items ≡ sites;
  moved : (k : ℕ) → k < l.reader-index → read_in l.reader-items k ≡ min (read_in l.initial.reader-items k + stride_in l.initial.reader-items k) l.end;
  others : (k : ℕ) → l.reader-index ≤ k → read_in l.reader-items k ≡ read_in l.initial.reader-items k;
  strides : (k : ℕ) → stride_in l.reader-items k ≡ stride_in l.initial.reader-items k;
}
