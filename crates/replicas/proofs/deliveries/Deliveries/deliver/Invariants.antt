use Rattle.std.proofs.Common.{◌≡◌, ℕ, take, filter}
use Rattle.store.specs.Holding.{registered_at}
use Rattle.replicas.specs.Replicas.{has_come, delivered}
use Rattle.replicas.proofs.deliveries.Deliveries.deliver.Given as goal

abbrev pub invariant-loop-delivery : goal.invariant-loop-delivery
invariant-loop-delivery l =
    (s k : ℕ) → registered_at l.registers s k ≡ delivered (registered_at l.initial.registers) (filter has_come (take l.delivery-index l.delivery-items)) s k
