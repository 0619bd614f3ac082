use Rattle.std.proofs.Common.{◌≡◌, ◌+◌, arith}
use Rattle.stamps.specs.KeySets.{has}
use Rattle.stamps.specs.Keys.{count_keys}
use Rattle.causal.specs.Choosing.{is_newer}
use Rattle.causal.specs.Holding.{holding, answered}
use Rattle.causal.proofs.Fitting.{newer_counts, chosen_from, withheld_exactly}
use Rattle.causal.proofs.cut.Cut.choose.Goals as goal

-- the newer answers are those put in and those withheld
counts : (c : goal.After-len-3) → c.len-2.result ≡ c.len-3.result + count_keys (is_newer (holding c.put_in.new.self) (answered c.args.answers.now))
counts c =
    let split =
    newer_counts (holding c.args.self.now) (answered c.args.answers.now) (has c.fitting_keys-fitting.result) c.fitting_keys-fitting.ensures (holding c.put_in.new.self) c.put_in.ensures
    (has c.newer_keys-newer.result) c.newer_keys-newer.ensures in
    omega (arith, split, c.len-2.ensures, c.len-3.ensures)

pub overflow_sub-result : goal.overflow_sub-result
overflow_sub-result c = omega (arith, counts c)

pub returns-clause-chosen : goal.returns-clause-chosen
returns-clause-chosen c =
    chosen_from (holding c.args.self.now) (answered c.args.answers.now) (has c.fitting_keys-fitting.result) c.fitting_keys-fitting.ensures (holding c.put_in.new.self) c.put_in.ensures _ _
    c.len.ensures (omega (arith, counts c))

pub returns-clause-withheld : goal.returns-clause-withheld
returns-clause-withheld c = withheld_exactly (holding c.args.self.now) (answered c.args.answers.now) (holding c.put_in.new.self) _ _ (returns-clause-chosen c)
