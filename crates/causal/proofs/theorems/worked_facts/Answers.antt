use Rattle.causal.proofs.Working.{worked_facts}
use Rattle.causal.proofs.theorems.worked_facts.Goals as goal

pub returns : goal.returns
returns c = worked_facts
