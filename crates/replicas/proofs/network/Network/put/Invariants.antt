use Rattle.std.proofs.Common.{◌≡◌, ℕ, ◌≤◌, ◌++◌}
use Rattle.stamps.specs.Numbers.{sites}
use Rattle.store.specs.Holding.{registered_at}
use Rattle.replicas.specs.Times.{times_of}
use Rattle.replicas.specs.Network.{carries}
use Rattle.replicas.specs.Replicas.{put_below, sent_below}
use Rattle.replicas.proofs.network.Network.put.Given as goal

abbrev pub invariant-loop-to : goal.invariant-loop-to
invariant-loop-to l = record {
  now : (s k : ℕ) → registered_at l.self.registers s k ≡ put_below l.to-iterator.next (times_of l.times) l.site l.version (registered_at l.initial.self.registers) s k;
  later : carries l.self ≡ carries l.initial.self ++ sent_below l.to-iterator.next (times_of l.times) l.site l.version;
  bounded : l.to-iterator.next ≤ sites;
}
