use Rattle.shared_log.proofs.Telling.{log_law}
use Rattle.shared_log.proofs.serve.log_tells_the_puts.Goals as goal

pub returns : goal.returns
returns c = log_law
