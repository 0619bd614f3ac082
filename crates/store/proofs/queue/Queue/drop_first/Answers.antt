use Rattle.std.proofs.Common.{rules, arith}
use Rattle.std.proofs.lemmas.List.{same_lists, places}
use Rattle.store.proofs.queue.Queue.drop_first.Goals as goal

pub returns : goal.returns
returns g c = same_lists _ _ (search (rules, places)) (λ k d h. grind (arith, places))
