use Rattle.stamps.specs.KeySets.{has}
use Rattle.stamps.specs.Keys.{count_keys}
use Rattle.causal.specs.Holding.{holding, answered}
use Rattle.causal.proofs.Fitting.{AllNewer, HasContained}
use Rattle.causal.proofs.cut.Cut.fitting_keys.Given as goal

abbrev pub invariant-loop-key : goal.invariant-loop-key
invariant-loop-key l =
    AllNewer (holding l.self) (answered l.answers) (has l.fitting)
    × HasContained (holding l.self) (answered l.answers) (has l.fitting)

abbrev pub decreases-loop-key : goal.decreases-loop-key
decreases-loop-key l = count_keys (has l.fitting)
