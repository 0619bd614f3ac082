use Rattle.std.proofs.Common.{◌≡◌, ◌≤◌, Bool}
use Rattle.std.proofs.lemmas.List.Filters.{FiltersInPlace}
use Rattle.store.specs.Queues.{Computes}
use Rattle.store.proofs.queue.Queue.retain.Given as goal

abbrev pub invariant-loop-place : goal.invariant-loop-place
invariant-loop-place g l =
    (l.kept ≤ l.place)
    × (l.self.len ≡ l.initial.self.len)
    × ((passes : g.row.T.Denot → Bool) → Computes g.F.Fn l.keep passes → FiltersInPlace passes l.initial.self.places l.self.places l.kept l.place)
