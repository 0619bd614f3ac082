use Rattle.replicas.proofs.Arriving.{replicas_law}
use Rattle.replicas.proofs.serve.registers_hold_the_highest.Goals as goal

pub returns : goal.returns
returns c = replicas_law
