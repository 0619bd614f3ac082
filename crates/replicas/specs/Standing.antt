-- The code's replicas are always in a good state.
use Rattle.replicas.specs.Replicas.{ReplicasGood}
use Rattle.replicas.specs.States.{replicas_state}
use Rattle.replicas.specs.declared.replicas.Replicas.{Replicas}

pub replicas_good : (r : Replicas) → ReplicasGood (replicas_state r)
replicas_good r = r.good
