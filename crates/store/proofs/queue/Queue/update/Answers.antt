use Rattle.std.proofs.Common.{◌<◌, length, arith}
use Rattle.store.proofs.Queueing.{changed_more, rest_more}
use Rattle.store.specs.Queues.{items_of}
use Rattle.store.proofs.queue.Queue.update.Goals as goal

pub loop-item-preserved : goal.loop-item-preserved
loop-item-preserved g c =
    let old = items_of c.args.self.now in
    let now = c.loop-item in
    let within : now.item-index < length old = c.loop-item-test.true in
    let within' : now.item-index < length now.item-items = omega (arith, now.auto.item-items, within) in (
      rest_more old now.item-items now.item-index c.item-item.result _ within within' now.invariant.0,
      λ becomes says.
          changed_more old now.item-items now.item-index c.item-item.result _ within within' now.invariant.0 becomes (now.invariant.1 becomes says)
          (says _ _ c.change.ensures),
    )
