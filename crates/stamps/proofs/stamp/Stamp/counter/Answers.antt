use Rattle.std.proofs.Common.{refl}
use Rattle.stamps.specs.Stamps.{counter_of}
use Rattle.stamps.proofs.stamp.Stamp.counter.Goals as goal

pub returns : goal.returns
unfolding counter_of
returns c = refl
