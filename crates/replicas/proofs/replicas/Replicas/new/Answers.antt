use Rattle.replicas.specs.Soundness.{start_good, start_new}
use Rattle.replicas.specs.Times.{times_of}
use Rattle.replicas.proofs.replicas.Replicas.new.Goals as goal

pub invariant_of-result : goal.invariant_of-result
invariant_of-result c = record { good = rw c.new.ensures (start_good (times_of c.args.times) c.args.times.limited) }

pub returns : goal.returns
returns c =
    let start = c.new.ensures (times_of c.args.times) in
    record { start = start; new = start_new _ _ start }
