use Rattle.std.proofs.Common.{◌≡◌, ℕ, ◌<◌, ◌≤◌, false}
use Rattle.stamps.specs.Numbers.{keys}
use Rattle.stamps.specs.KeySets.{has}
use Rattle.stamps.proofs.keyset.KeySet.of.Given as goal

abbrev pub invariant-loop-key : goal.invariant-loop-key
invariant-loop-key g l = record {
  so_far : (k : ℕ) → k < l.key-iterator.next → g.F.Fn.post l.test (k, tt) (has l.passing k);
  bounded : l.key-iterator.next ≤ keys;
  beyond : (k : ℕ) → l.key-iterator.next ≤ k → has l.passing k ≡ false;
}
