-- The stores that stand alone or one over another, and what holds of each make.
use Rattle.shared_log.specs.Log.{log_kind}
use Rattle.poll.specs.Poll.{poll_kind}
use Rattle.replicas.specs.Replicas.{replicas_kind}
use Rattle.store.specs.Kinds.{Kind, EachStepHasOneOutcome, RefusedKeeps}

-- a make is exact when each step has one outcome and a refused put leaves the whole state as it was
pub record Exact (K : Kind) : Type 0 where
  pub one_outcome : EachStepHasOneOutcome K
  pub refused_keeps : RefusedKeeps K

-- so it is with replicas, the log, poll over each, and poll over poll over replicas
pub record PilesAreExact : Type 0 where
  pub replicas : Exact replicas_kind
  pub log : Exact log_kind
  pub poll_over_replicas : Exact (poll_kind replicas_kind)
  pub poll_over_log : Exact (poll_kind log_kind)
  pub poll_over_poll_over_replicas : Exact (poll_kind (poll_kind replicas_kind))
