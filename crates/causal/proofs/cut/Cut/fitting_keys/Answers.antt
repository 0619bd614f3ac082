use Rattle.stamps.specs.KeySets.{has}
use Rattle.stamps.specs.Numbers.{keys}
use Rattle.stamps.proofs.Counting.{count_struck}
use Rattle.causal.specs.Holding.{holding, answered}
use Rattle.causal.proofs.Fitting.{strike_newer, strike_contained, fits_from}
use Rattle.causal.proofs.cut.Cut.fitting_keys.Goals as goal

pub loop-key-smaller : goal.loop-key-smaller
loop-key-smaller c =
    count_struck keys (has c.loop-key.fitting) (has c.without-fitting.result) c.in-Some.key c.without-fitting.ensures c.in-Some.ensures.0 c.in-Some.ensures.1

pub loop-key-preserved : goal.loop-key-preserved
loop-key-preserved c =
    let old = holding c.args.self.now in
    let answers = answered c.args.answers.now in
    let all = has c.loop-key.fitting in
    let less = has c.without-fitting.result in (
      strike_newer old answers all less c.in-Some.key c.without-fitting.ensures c.loop-key.invariant.0,
      strike_contained old answers all less c.in-Some.key c.without-fitting.ensures c.loop-key.invariant.0 c.loop-key.invariant.1 c.in-Some.ensures.2,
    )

pub returns : goal.returns
returns c =
    let cut = c.args.self.now in
    record {
      fits = fits_from (holding cut) (answered c.args.answers.now) (has c.loop-key.fitting) c.loop-key.invariant.0 cut.causal c.in_default.ensures;
      largest = c.loop-key.invariant.1;
    }
