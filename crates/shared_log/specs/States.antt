-- The state of the code's log.
use Rattle.shared_log.specs.Holding.{state_of}
use Rattle.shared_log.specs.Log.{LogState}
use Rattle.shared_log.specs.declared.log.Log.{Log}

-- a log's state is what its parts make
abbrev pub log_state : Log → LogState
log_state l = state_of l.base l.tail l.readers
