use Rattle.std.proofs.Common.{Bool, ◌&&◌, is_some, sym, ap, ◌∙◌, ⊎_elim, rules}
use Rattle.std.proofs.lemmas.Bool.{cases_lt}
use Rattle.stamps.specs.KeySets.{has}
use Rattle.causal.proofs.Tabling.{past_held}
use Rattle.causal.proofs.cut.Cut.causes_in.Goals as goal

pub returns : goal.returns
returns c k =
    c.masked.ensures k
    ∙ ap (λ (b : Bool). has c.args.sale k && b)
    (⊎_elim (λ l. let tested = c.of.ensures.tested k l in search rules)
    (λ l. c.of.ensures.within k l ∙ sym (ap is_some (past_held c.args.self.now.held k l))) (cases_lt k 32))
