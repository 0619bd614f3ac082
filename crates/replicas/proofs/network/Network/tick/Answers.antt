use Rattle.std.proofs.Common.{◌≡◌, false, map, sym, ap, ◌∙◌, subst}
use Rattle.std.specs.List.{AllByRecursion}
use Rattle.store.specs.Holding.{registered_at}
use Rattle.replicas.specs.Network.{carries}
use Rattle.replicas.specs.Pending.{any_come}
use Rattle.replicas.specs.Replicas.{Addressed, delivered, lowered}
use Rattle.replicas.proofs.Coming.{lowered_addressed, none_come, none_removed}
use Rattle.replicas.proofs.network.Network.tick.Goals as goal

pub deliver-requires : goal.deliver-requires
deliver-requires c = subst (AllByRecursion Addressed) (sym c.lower.ensures.lowered) (lowered_addressed (carries c.args.self.now) c.requires)

pub returns-else-lower : goal.returns-else-lower
returns-else-lower c ts =
    let old = c.args.self.now in
    let low = map lowered (carries old) in
    let none : any_come low ≡ false = ap any_come (sym c.lower.ensures.lowered) ∙ sym c.lower.ensures.due ∙ c.if-lower.false in
    let same = ap (delivered (registered_at old.registers)) (sym (none_come low none)) in
    let stay = c.lower.ensures.lowered ∙ sym (none_removed low none) in
    λ i. record { registers = same i; deliveries = stay i; times = ts }
