use Rattle.std.proofs.Common.{sym, ◌∙◌, rules}
use Rattle.stamps.specs.KeySets.{has}
use Rattle.stamps.specs.Numbers.{keys}
use Rattle.causal.specs.Holding.{holding}
use Rattle.causal.proofs.Drafting.{causes_none, row_lowest}
use Rattle.causal.proofs.cut.Cut.row_of.Goals as goal

pub loop-key-preserved-in-Some-at : goal.loop-key-preserved-in-Some-at
loop-key-preserved-in-Some-at c =
    let steps = c.in-Some.ensures.steps in
    let first =
    row_lowest c.loop-key.row (holding c.args.self.now) (has c.loop-key.key-iterator.left) (has c.next.new.self.left) c.in-Some.key (search rules) steps.0 steps.1 steps.2 in
    let joined = rw (sym c.at.ensures ∙ c.in-Some-at.is) at first in
    rw (c.join-row.ensures, c.reach.ensures) (joined ∙ c.loop-key.invariant)

pub loop-key-preserved : goal.loop-key-preserved
loop-key-preserved c =
    let steps = c.in-Some.ensures.steps in
    let first =
    row_lowest c.loop-key.row (holding c.args.self.now) (has c.loop-key.key-iterator.left) (has c.next.new.self.left) c.in-Some.key (search rules) steps.0 steps.1 steps.2 in
    let passed = rw (sym c.at.ensures ∙ c.in_default.is) at first in
    passed ∙ c.loop-key.invariant

pub returns : goal.returns
returns c =
    let joined = c.loop-key.invariant in
    rw (causes_none keys (holding c.args.self.now) (has c.loop-key.key-iterator.left) (λ k l. c.in-None.ensures.steps.0 k)) at joined
