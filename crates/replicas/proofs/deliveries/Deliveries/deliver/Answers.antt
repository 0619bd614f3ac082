use Rattle.std.proofs.Common.{refl, sym, subst}
use Rattle.std.proofs.ByRecursion.{All-get_or}
use Rattle.std.specs.List.{AllByRecursion}
use Rattle.store.specs.Holding.{registered_at}
use Rattle.replicas.proofs.Coming.{deliver_more}
use Rattle.replicas.specs.Pending.{no_delivery}
use Rattle.replicas.specs.Replicas.{Addressed}
use Rattle.replicas.proofs.deliveries.Deliveries.deliver.Goals.{then-has_come, else-has_come}
use Rattle.replicas.proofs.deliveries.Deliveries.deliver.Goals as goal

pub take-requires : goal.take-requires
take-requires c =
    let items = c.as_slice-delivery-items in
    All-get_or Addressed items.result.now c.loop-delivery.delivery-index no_delivery c.loop-delivery-test.true
    (subst (AllByRecursion Addressed) (sym items.ensures.value) c.requires)

pub loop-delivery-preserved : goal.loop-delivery-preserved
loop-delivery-preserved c s k =
    let before = c.loop-delivery in
    let more = deliver_more _ (registered_at before.registers) c.as_slice-delivery-items.result.now before.delivery-index no_delivery c.loop-delivery-test.true before.invariant in
    elim c.if-has_come.branch [
      | then-has_come w ↦ rw (w.registers-is, more, ← w.if-has_come.ensures) (w.take.ensures s k)
      | else-has_come w ↦ rw (w.registers-is, more, ← w.if-has_come.ensures) refl
    ]
