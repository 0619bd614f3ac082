use Rattle.std.proofs.Common.{◌≡◌, ℕ, true, false}
use Rattle.stamps.specs.KeySets.{has}
use Rattle.causal.specs.Choosing.{put_in}
use Rattle.causal.specs.Holding.{holding, answered}
use Rattle.causal.specs.Tables.{face_of, CoversHeld}
use Rattle.causal.proofs.cut.Cut.misfit.Given as goal

abbrev pub invariant-loop-key : goal.invariant-loop-key
invariant-loop-key l = record {
  covered : (k : ℕ) → has l.fn.chosen k ≡ true → has l.key-iterator.left k ≡ false
      → CoversHeld (face_of (put_in (holding l.self) (answered l.answers) (has l.fn.chosen))) (answered l.answers k);
  chosen : (k : ℕ) → has l.key-iterator.left k ≡ true → has l.fn.chosen k ≡ true;
}
