use Rattle.std.proofs.Common.{◌≡◌, ℕ, take}
use Rattle.store.specs.Holding.{registered}
use Rattle.store.specs.Registers.{came_all}
use Rattle.shared_log.proofs.coming.bring.Given as goal

-- the versions so far have come
abbrev pub invariant-loop-version : goal.invariant-loop-version
invariant-loop-version l =
    (k : ℕ) → registered l.registers k ≡ came_all (registered l.initial.registers) (take l.version-index l.versions) k
