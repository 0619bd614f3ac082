use Rattle.std.proofs.Common.{◌≡◌, ℕ, ◌+◌, ◌*◌, sym, subst}
use Rattle.stamps.specs.Numbers.{factor}
use Rattle.stamps.specs.Stamps.{InStampRange, terminal_of}
use Rattle.stamps.proofs.Stamping.{parts_of_stamp}
use Rattle.stamps.proofs.stamp.Stamp.parts.Goals as goal

pub returns : goal.returns
unfolding terminal_of
returns c =
    let n = c.args.self.number in
    subst (λ (counter : ℕ). InStampRange counter (terminal_of n) × (n ≡ counter * factor + terminal_of n)) (sym c.counter.ensures)
    (parts_of_stamp n (sym c.if-not-is_stamp.ensures))
