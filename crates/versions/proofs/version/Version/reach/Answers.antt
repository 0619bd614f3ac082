use Rattle.std.proofs.Common.{rules, arith}
use Rattle.std.proofs.lemmas.Grind.{common_steps}
use Rattle.std.proofs.lemmas.Bool.Decides.{nat_tests}
use Rattle.versions.specs.Rowing.{row_built, stamp_read}
use Rattle.versions.proofs.version.Version.reach.Goals as goal

pub returns-in-Ok : goal.returns-in-Ok
returns-in-Ok c = row_built _ _ (search rules) (λ k h. grind (arith, common_steps, nat_tests, stamp_read))

pub returns-in_default : goal.returns-in_default
returns-in_default c = row_built _ _ (search rules) (λ k h. grind (arith, nat_tests, stamp_read))
