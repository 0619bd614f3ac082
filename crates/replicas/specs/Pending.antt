-- The pending deliveries of the code.
use Rattle.std.specs.Prelude.{Bool, List, []}
use Rattle.std.specs.List.{list_any}
use Rattle.stamps.specs.declared.value.Value.TheVariants.{Amount}
use Rattle.versions.specs.Rows.{stamp}
use Rattle.store.specs.Queues.{items_of}
use Rattle.replicas.specs.Replicas.{has_come}
use Rattle.replicas.specs.declared.deliveries.Deliveries.{Deliveries}
use Rattle.replicas.specs.declared.delivery.Delivery.{Delivery}

-- the pending deliveries are those in the queue, in order
abbrev pub pending : Deliveries → List Delivery
pending d = items_of d.list

-- what a read past the places stands for
abbrev pub no_delivery : Delivery
no_delivery = record { version = record { key = 0; value = Amount 0; stamp = stamp 0; row = record { stamps = [] } }; site = 0; left = 0 }

-- some delivery of a list has come
abbrev pub any_come : List Delivery → Bool
any_come = list_any has_come
