-- When copyings come.
use Rattle.std.specs.Prelude.{◌≡◌, ℕ, zero, suc, ◌+◌, ◌-◌, ◌*◌, ◌≤◌, refl}
use Rattle.std.proofs.Common.{sym, subst, mul-le-mul_right, add-mul, arith}
use Rattle.store.specs.Waits.{divided_up}
use Rattle.store.proofs.Rounding.{up_reaches, up_least}
use Rattle.poll.specs.Copying.{FirstCopyingLaw}
use Rattle.poll.specs.Poll.{first_copying}

-- the first copying comes no sooner
pub first_reaches : (countdown period ticks : ℕ) → 1 ≤ period → ticks ≤ first_copying countdown period ticks
first_reaches countdown period ticks h = omega (arith, up_reaches (ticks - countdown) period h)

-- and no later than any other that comes no sooner
pub first_least : (countdown period ticks j : ℕ) → 1 ≤ period → ticks ≤ countdown + j * period → first_copying countdown period ticks ≤ countdown + j * period
first_least countdown period ticks j h enough =
    let few : divided_up (ticks - countdown) period ≤ j = up_least (ticks - countdown) period j h (omega arith) in
    let times : divided_up (ticks - countdown) period * period ≤ j * period = mul-le-mul_right period few in
    omega arith

-- a tick without copying brings it nearer
pub first_nearer : (countdown period ticks ticks' : ℕ) → 1 ≤ period → 2 ≤ countdown → ticks' ≤ ticks - 1
    → first_copying (countdown - 1) period ticks' ≤ first_copying countdown period ticks - 1
first_nearer countdown period ticks ticks' h c f =
    let j = divided_up (ticks - countdown) period in
    let r : ticks ≤ countdown + j * period = first_reaches countdown period ticks h in
    let l : first_copying (countdown - 1) period ticks' ≤ (countdown - 1) + j * period = first_least (countdown - 1) period ticks' j h (omega arith) in
    omega arith

-- so does a tick with copying, while there is a wait
pub first_again : (period ticks ticks' : ℕ) → 1 ≤ period → 1 ≤ ticks' → ticks' ≤ ticks - 1
    → first_copying period period ticks' ≤ first_copying 1 period ticks - 1
first_again period ticks ticks' h some f = again (divided_up (ticks - 1) period) (up_reaches (ticks - 1) period h)
  where
    again : (j : ℕ) → ticks - 1 ≤ j * period → first_copying period period ticks' ≤ (1 + j * period) - 1
    again zero r = absurd (omega arith)
    again (suc j) r =
        let times : (j + 1) * period ≡ j * period + period = omega (arith, add-mul j 1 period) in
        let l : first_copying period period ticks' ≤ period + j * period = first_least period period ticks' j h (omega arith) in
        omega arith

-- so it is the first of those that come no sooner
pub first_copying_law : FirstCopyingLaw
first_copying_law countdown period ticks h =
    record {
      copies = (divided_up (ticks - countdown) period, refl);
      no_sooner = first_reaches countdown period ticks h;
      none_before =
          λ other (j, e) enough. subst (λ (n : ℕ). first_copying countdown period ticks ≤ n) (sym e) (first_least countdown period ticks j h (omega arith));
    }
