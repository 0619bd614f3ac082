use Rattle.causal.proofs.Fitting.{withheld_exactly}
use Rattle.causal.proofs.theorems.withheld_exactly_when_none_contains_it.Goals as goal

pub returns : goal.returns
returns c = withheld_exactly
