use Rattle.std.proofs.Common.{◌≡◌, ℕ, ◌+◌, ◌*◌, ◌<◌}
use Rattle.stamps.specs.Numbers.{keys}
use Rattle.causal.specs.Tables.{held_stamp}
use Rattle.store.specs.Meanings.{InAskRange}
use Rattle.poll.specs.Holding.{snapshot_of, shown_below, AsItWas}
use Rattle.poll.proofs.poll.Poll.same_stamps.Given as goal

abbrev pub invariant-loop-spot : goal.invariant-loop-spot
invariant-loop-spot g l = record {
  so_far :
      (s k : ℕ) → InAskRange s k → s * keys + k < l.spot-iterator.next
      → held_stamp (snapshot_of l.initial.self s k) ≡ held_stamp (shown_below g.S.Store.kind g.S.Store.state l.initial.self s k);
  rest : AsItWas g.S.Store.kind g.S.Store.state l.initial.self l.self;
}
