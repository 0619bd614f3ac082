use Rattle.std.proofs.Common.{◌≡◌, ℕ, ◌<◌}
use Rattle.stamps.specs.Numbers.{keys}
use Rattle.carrying.proofs.carrying.settle.Given as goal

-- ticks leave the peaks
abbrev pub invariant-loop-tick : goal.invariant-loop-tick
invariant-loop-tick g l =
    (key : ℕ) → key < keys → (g.S.Store.kind.means (g.S.Store.state l.store)).peak key ≡ (g.S.Store.kind.means (g.S.Store.state l.initial.store)).peak key
