use Rattle.std.proofs.Common.{◌≡◌, rules, sym, subst}
use Rattle.store.specs.Meanings.{New}
use Rattle.shared_log.specs.Holding.{state_of, stride_of}
use Rattle.shared_log.specs.Log.{LogState, log_start, log_means}
use Rattle.shared_log.specs.Logging.{start_good, log_new}
use Rattle.shared_log.proofs.log.Log.new.Goals as goal

pub invariant_of-result : goal.invariant_of-result
invariant_of-result c =
    let strides = c.args.strides in
    let start : state_of c.new-base.result c.new-tail.result c.new-readers.result ≡ log_start (stride_of strides) = search rules in
    record { good = rw start (start_good (stride_of strides) strides.least strides.most) }

pub returns-clause-new : goal.returns-clause-new
returns-clause-new c =
    let strides = c.args.strides in
    let start : state_of c.new-base.result c.new-tail.result c.new-readers.result ≡ log_start (stride_of strides) = search rules in
    subst (λ (s : LogState). New (log_means s)) (sym start) (log_new (stride_of strides) strides.least)
