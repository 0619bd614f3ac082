use Rattle.std.proofs.Common.{◌≡◌, Some, None, Option, Ok, Err, Result, MatchResult, sym, ◌∙◌, rules}
use Rattle.std.specs.Result.{result_ok}
use Rattle.stamps.specs.declared.refusal.Refusal.TheVariants.{OutOfRange}
use Rattle.stamps.specs.declared.refusal.Refusal.{Refusal}
use Rattle.store.proofs.Registering.{past_registers}
use Rattle.store.proofs.site_registers.SiteRegisters.read.Goals as goal

-- where nothing is answered, it was refused
refused : {A P : Type 0} (r : Result A Refusal) → result_ok r ≡ None → MatchResult r (λ _. P) (λ e. (e ≡ OutOfRange) × (P → ⊥)) → P → ⊥
refused (Ok a) none range = absurd (let e : ◌≡◌ {A = Option _} (Some a) None = none in search rules)
refused (Err e) none range = range.1

pub returns-in_err-spot : goal.returns-in_err-spot
returns-in_err-spot c =
    c.from_residual.ensures
    ∙ sym (past_registers c.args.self.now c.args.site c.args.key (refused c.check_ask.result (sym c.ok.ensures.value ∙ c.in_err-spot.was) c.check_ask.ensures.range))
