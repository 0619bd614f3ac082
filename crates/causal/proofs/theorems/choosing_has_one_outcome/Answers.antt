use Rattle.causal.proofs.Fitting.{one_outcome}
use Rattle.causal.proofs.theorems.choosing_has_one_outcome.Goals as goal

pub returns : goal.returns
returns c = one_outcome
