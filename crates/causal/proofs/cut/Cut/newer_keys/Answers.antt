use Rattle.std.proofs.Common.{⊎_elim, rules, arith}
use Rattle.std.proofs.lemmas.Grind.{common_steps}
use Rattle.std.proofs.lemmas.Bool.{cases_lt}
use Rattle.causal.specs.Holding.{holding}
use Rattle.causal.proofs.Tabling.{face_read, past_held}
use Rattle.causal.proofs.cut.Cut.newer_keys.Goals as goal

pub returns : goal.returns
returns c k =
    let cut = c.args.self.now in
    ⊎_elim (λ l. let tested = c.of.ensures.tested k l in let read = face_read cut.face (holding cut) cut.faced k l in search rules)
    (λ l.
    let untested = c.of.ensures.within k l in
    let held = past_held cut.held k l in
    let given = past_held c.args.answers.now.given k l in
    grind (arith, common_steps)) (cases_lt k 32)
