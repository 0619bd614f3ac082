use Rattle.std.proofs.Common.{eqb, arith}
use Rattle.std.proofs.lemmas.Bool.{cases_Bool}
use Rattle.std.proofs.lemmas.Grind.{common_steps}
use Rattle.std.proofs.lemmas.Option.{gets}
use Rattle.store.proofs.site_registers.SiteRegisters.write.Goals as goal

pub returns-in-Ok : goal.returns-in-Ok
returns-in-Ok c s k = grind (arith, common_steps, gets, cases_Bool (eqb s c.args.site))
