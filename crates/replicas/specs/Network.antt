-- What the registers and deliveries of the code are.
use Rattle.std.specs.Prelude.{ℕ, List}
use Rattle.store.specs.Holding.{registered_at}
use Rattle.replicas.specs.Pending.{pending}
use Rattle.replicas.specs.Replicas.{ReplicasState}
use Rattle.replicas.specs.declared.delivery.Delivery.{Delivery}
use Rattle.replicas.specs.declared.network.Network.{Network}

-- what is on its way
abbrev pub carries : Network → List Delivery
carries n = pending n.deliveries

-- the registers and deliveries, with line times
abbrev pub network_state : Network → List ℕ → ReplicasState
network_state n ts = record { registers = registered_at n.registers; deliveries = carries n; times = ts }
