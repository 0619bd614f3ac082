use Rattle.std.proofs.Common.{◌≡◌, take}
use Rattle.store.specs.Holding.{registered}
use Rattle.store.specs.Registers.{came_all}
use Rattle.shared_log.proofs.coming.latest.Given as goal

-- what the register would hold after the versions so far
abbrev pub invariant-loop-version : goal.invariant-loop-version
invariant-loop-version l = l.held ≡ came_all (registered l.registers) (take l.version-index l.seen) l.key
