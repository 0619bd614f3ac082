use Rattle.std.proofs.Common.{rules}
use Rattle.std.proofs.lemmas.Iterator.{YieldsList-from_slice}
use Rattle.std.proofs.lemmas.Iterator.Search.{any_from_yields_List}
use Rattle.replicas.specs.Pending.{pending}
use Rattle.replicas.specs.Replicas.{has_come}
use borrow.Author.Tests.{tests}
use Rattle.replicas.proofs.deliveries.Deliveries.lower.Goals as goal

pub returns-clause-due : goal.returns-clause-due
returns-clause-due c =
    any_from_yields_List has_come _ _ c.any.result c.any.ensures.ran (YieldsList-from_slice (pending (record { list = c.update.new.self })) cc)
    (λ x b q k. search (rules, tests))
