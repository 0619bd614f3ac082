use Rattle.std.proofs.Common.{◌≡◌, ℕ, ◌+◌, ◌*◌, ◌<◌}
use Rattle.stamps.specs.Numbers.{keys}
use Rattle.store.specs.Meanings.{InAskRange}
use Rattle.poll.specs.Holding.{snapshot_of, shown_below, OnlySnapshot}
use Rattle.poll.proofs.poll.Poll.copy.Given as goal

abbrev pub invariant-loop-spot : goal.invariant-loop-spot
invariant-loop-spot g l = record {
  so_far :
      (s k : ℕ) → InAskRange s k → s * keys + k < l.spot-iterator.next
      → snapshot_of l.self s k ≡ shown_below g.S.Store.kind g.S.Store.state l.initial.self s k;
  rest : OnlySnapshot g.S.Store.kind g.S.Store.state l.initial.self l.self;
}
