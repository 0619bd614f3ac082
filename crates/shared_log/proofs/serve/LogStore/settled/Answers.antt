use Rattle.std.proofs.Common.{length, ap}
use Rattle.std.proofs.lemmas.List.{nil_from_length}
use Rattle.store.specs.Queues.{items_of}
use Rattle.shared_log.specs.Logging.{settled_empty, empty_settled}
use Rattle.shared_log.specs.States.{log_state}
use Rattle.shared_log.proofs.serve.LogStore.settled.Goals as goal

pub returns-clause-answers : goal.returns-clause-answers
returns-clause-answers c =
    let l = c.args.self.now in (
      λ t. empty_settled (log_state l) l.good (ap length (c.is_empty.ensures.0 t)),
      λ none. c.is_empty.ensures.1 (nil_from_length (items_of l.tail) (settled_empty (log_state l) l.good none)),
    )
