use Rattle.std.proofs.Common.{ℕ, ◌<◌, ◌≤◌, get_or, Decides}
use Rattle.versions.specs.Rows.{stamp}
use Rattle.versions.proofs.row.Row.covers_from.Given as goal

-- whether the keys so far are covered
abbrev pub invariant-loop-k : goal.invariant-loop-k
invariant-loop-k l =
    Decides l.covered ((k : ℕ) → l.first ≤ k → k < l.k → (get_or l.other.stamps k (stamp 0)).number ≤ (get_or l.self.stamps k (stamp 0)).number)
