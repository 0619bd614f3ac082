use Rattle.std.proofs.Common.{◌*◌, refl, ⊎_elim, arith}
use Rattle.std.proofs.lemmas.Bool.{cases_lt}
use Rattle.versions.specs.Rowing.{covers_by_keys}
use Rattle.versions.proofs.row.Row.covers.Goals as goal

pub loop-part-preserved : goal.loop-part-preserved
loop-part-preserved c k h =
    ⊎_elim (λ before. c.loop-part.invariant k before) (λ past. c.covers_from.ensures.0 c.if-not-covers_from.false k (omega (arith, past)) (omega (arith, h))) (cases_lt k (c.loop-part.part * 8))

pub returns : goal.returns
returns c = (
  λ t. covers_by_keys c.args.self.now c.args.other.now (λ k h. c.loop-part.invariant k (omega (arith, h, c.loop-part-test.false))),
  λ covered. refl,
)
