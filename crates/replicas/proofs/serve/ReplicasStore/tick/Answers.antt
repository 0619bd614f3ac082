use Rattle.replicas.specs.Network.{carries}
use Rattle.replicas.specs.Times.{times_of}
use Rattle.replicas.proofs.Coming.{are_addressed}
use Rattle.replicas.specs.States.{replicas_state}
use Rattle.replicas.specs.Soundness.{tick_good}
use Rattle.replicas.proofs.serve.ReplicasStore.tick.Goals as goal

pub tick-requires : goal.tick-requires
tick-requires c = are_addressed (carries c.args.self.now.network) c.args.self.now.good.deliveries_fit

pub invariant_of-self : goal.invariant_of-self
invariant_of-self c = record { good = rw c.tick.ensures (tick_good (replicas_state c.args.self.now) c.args.self.now.good) }

pub returns : goal.returns
returns c = c.tick.ensures (times_of c.args.self.now.times)
