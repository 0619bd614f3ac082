use Rattle.std.proofs.Common.{arith}
use Rattle.versions.specs.Rowing.{stamp_read}
use Rattle.versions.proofs.row.Row.covers_from.Goals as goal

pub returns : goal.returns
returns c =
    let a = c.args.self.now in
    let b = c.args.other.now in (
      λ t k low high. omega (arith, c.loop-k.invariant.0 t k low (omega (arith, high)), stamp_read a k (omega (arith, high, c.requires)), stamp_read b k (omega (arith, high, c.requires))),
      λ covered. c.loop-k.invariant.1 (λ k low high. omega (arith, covered k low (omega (arith, high)), stamp_read a k (omega (arith, high, c.requires)), stamp_read b k (omega (arith, high, c.requires)))),
    )
