use Rattle.std.proofs.Common.{◌≡◌, ℕ, ◌-◌, ◌<◌, ◌≤◌, length}
use Rattle.stamps.specs.Numbers.{sites}
use Rattle.shared_log.specs.Holding.{read_in, stride_in}
use Rattle.shared_log.proofs.readers.Readers.lower.Given as goal

-- the readers so far are lowered, and the others stand as they stood
abbrev pub invariant-loop-reader : goal.invariant-loop-reader
invariant-loop-reader l = record {
  sized : length l.reader-items ≡ sites;
  lowered : (k : ℕ) → k < l.reader-index → read_in l.reader-items k ≡ read_in l.initial.reader-items k - l.count;
  others : (k : ℕ) → l.reader-index ≤ k → read_in l.reader-items k ≡ read_in l.initial.reader-items k;
  strides : (k : ℕ) → stride_in l.reader-items k ≡ stride_in l.initial.reader-items k;
}
