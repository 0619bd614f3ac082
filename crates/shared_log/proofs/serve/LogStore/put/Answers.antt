use Rattle.std.proofs.Common.{◌≡◌, rules, sym, refl}
use Rattle.store.specs.Puts.{refused_barred}
use Rattle.shared_log.specs.Holding.{state_of}
use Rattle.shared_log.specs.Log.{after_put}
use Rattle.shared_log.specs.Logging.{put_good}
use Rattle.shared_log.specs.States.{log_state}
use Rattle.shared_log.proofs.serve.LogStore.put.Goals as goal

pub returns-in-Some : goal.returns-in-Some
returns-in-Some c = refused_barred c.in_ok-check_put.ensures.range c.in-Some.bar (sym c.in-Some.ensures) refl refl

pub invariant_of-self : goal.invariant_of-self
invariant_of-self c =
    let l = c.args.self.now in
    let after : state_of l.base c.push.new.self l.readers ≡ after_put (log_state l) c.args.version = search rules in
    record { good = rw after (put_good (log_state l) c.args.version l.good c.in_ok-check_put.ensures.range.1 (sym c.in_default.ensures)) }
