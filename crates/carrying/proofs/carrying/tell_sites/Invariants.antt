use Rattle.std.proofs.Common.{◌≡◌}
use Rattle.carrying.proofs.carrying.tell_sites.Given as goal

-- asking leaves the state of the store
abbrev pub invariant-loop-site : goal.invariant-loop-site
invariant-loop-site g l = g.S.Store.state l.store ≡ g.S.Store.state l.initial.store
