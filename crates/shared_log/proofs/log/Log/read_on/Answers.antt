use Rattle.std.proofs.Common.{◌≡◌, rules, arith}
use Rattle.std.proofs.lemmas.Grind.{common_steps}
use Rattle.shared_log.specs.Holding.{state_of, position_of}
use Rattle.shared_log.specs.Log.{after_tick}
use Rattle.shared_log.specs.Logging.{tick_good}
use Rattle.shared_log.specs.Positioning.{lowest_at_most}
use Rattle.shared_log.specs.States.{log_state}
use Rattle.shared_log.specs.Tailing.{versions_parts}
use Rattle.shared_log.proofs.log.Log.read_on.Goals as goal

pub slice_bounds-bring-end : goal.slice_bounds-bring-end
slice_bounds-bring-end c = grind (arith, common_steps, lowest_at_most (position_of c.move_on.new.self) 0 (omega arith))

pub bring-requires : goal.bring-requires
bring-requires c =
    let l = c.args.self.now in
    rw c.as_slice.ensures.value (versions_parts c.lowest-read_by_all.result (log_state l).tail l.good.tail_fits).0

pub drop_first-requires : goal.drop_first-requires
drop_first-requires c = grind (arith, lowest_at_most (position_of c.move_on.new.self) 0 (omega arith))

pub lower-requires : goal.lower-requires
lower-requires c site h = omega (arith, c.lowest-read_by_all.ensures, lowest_at_most (position_of c.move_on.new.self) site h)

pub invariant_of-self : goal.invariant_of-self
invariant_of-self c =
    let l = c.args.self.now in
    let after : state_of c.bring.new.registers c.drop_first.new.self c.lower.new.self ≡ after_tick (log_state l) = search rules in
    record { good = rw after (tick_good (log_state l) l.good) }
