use Rattle.versions.proofs.Joining.{order_and_repeats}
use Rattle.versions.proofs.join.order_and_repeats.Goals as goal

pub returns : goal.returns
returns g c = order_and_repeats g.met.T.Join.lawful
