use Rattle.causal.proofs.Drafting.{one_draft}
use Rattle.causal.proofs.theorems.drafting_has_one_answer.Goals as goal

pub returns : goal.returns
returns c = one_draft
