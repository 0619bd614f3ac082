use Rattle.std.proofs.Common.{rules, arith, ⊎_elim, ◌∙◌}
use Rattle.std.proofs.lemmas.Bool.{cases_lt}
use Rattle.std.proofs.lemmas.Grind.{common_steps}
use Rattle.job.proofs.keys_of_job.Goals as goal
use mathlib.Core.Path.{fun_ext}

pub returns : goal.returns
returns c =
    fun_ext
    (λ k. ⊎_elim (λ l. let t = c.of.ensures.tested k l in search rules)
    (λ l. c.of.ensures.within k l ∙ grind (arith, common_steps)) (cases_lt k 32))
