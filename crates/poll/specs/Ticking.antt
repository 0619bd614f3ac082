-- What a tick leaves: a copy when the countdown has run out, else a lower countdown.
use Rattle.std.specs.Prelude.{◌≡◌, ◌-◌, ◌≤◌, ◌==◌}
use Rattle.std.proofs.Common.{arith}
use Rattle.std.proofs.lemmas.Bool.{cond_both, eqb-true, eqb-false}
use Rattle.std.proofs.lemmas.Bool.Decides.{nat_tests}
use Rattle.store.specs.Kinds.{Kind}
use Rattle.poll.specs.Poll.{PollState, after_copying, after_counting, after_tick}

-- at the last tick it copies
pub tick_copies : (K : Kind) (s : PollState K) (u : K.State) → s.countdown ≤ 1 → after_tick K s u ≡ after_copying K s u
tick_copies K s u last = grind (arith, nat_tests)

-- and before it counts
pub tick_counts : (K : Kind) (s : PollState K) (u : K.State) → 2 ≤ s.countdown → after_tick K s u ≡ after_counting K s u
tick_counts K s u more = grind (arith, nat_tests)

-- whatever holds of both holds of what a tick leaves
pub tick_each : (K : Kind) (s : PollState K) (u : K.State) (P : PollState K → Type 0) → (s.countdown ≤ 1 → P (after_copying K s u))
    → (2 ≤ s.countdown → P (after_counting K s u)) → P (after_tick K s u)
tick_each K s u P last more =
    cond_both (s.countdown - 1 == 0) (after_copying K s u) (after_counting K s u) P
    (λ e. last (omega (arith, eqb-true (s.countdown - 1) 0 e))) (λ f. more (omega (arith, eqb-false (s.countdown - 1) 0 f)))
