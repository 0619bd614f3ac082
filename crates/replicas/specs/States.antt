-- The state of the replicas of the code.
use Rattle.replicas.specs.Times.{times_of}
use Rattle.replicas.specs.Network.{network_state}
use Rattle.replicas.specs.Replicas.{ReplicasState}
use Rattle.replicas.specs.declared.replicas.Replicas.{Replicas}

-- the state of replicas is what their registers, deliveries and line times are
abbrev pub replicas_state : Replicas → ReplicasState
replicas_state r = network_state r.network (times_of r.times)
