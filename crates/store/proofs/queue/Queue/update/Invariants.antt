use Rattle.std.proofs.Common.{◌≡◌, map, take, drop}
use Rattle.store.specs.Queues.{Changes, items_of}
use Rattle.store.proofs.queue.Queue.update.Given as goal

abbrev pub invariant-loop-item : goal.invariant-loop-item
invariant-loop-item g l =
    (drop l.item-index l.item-items ≡ drop l.item-index (items_of l.fn.self))
    × ((becomes : g.row.T.Denot → g.row.T.Denot) → Changes g.F.Fn l.change becomes
    → take l.item-index l.item-items ≡ map becomes (take l.item-index (items_of l.fn.self)))
