use Rattle.std.proofs.Common.{ℕ, ◌*◌, ◌<◌, ◌≤◌}
use Rattle.versions.specs.Rows.{stamp_at}
use Rattle.versions.proofs.row.Row.covers.Given as goal

-- the parts so far are covered
abbrev pub invariant-loop-part : goal.invariant-loop-part
invariant-loop-part l = (k : ℕ) → k < l.part * 8 → stamp_at l.other k ≤ stamp_at l.self k
