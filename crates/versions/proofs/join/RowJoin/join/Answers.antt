use Rattle.std.proofs.Common.{ℕ, get_or, ap, rules, arith}
use Rattle.stamps.specs.declared.stamp.Stamp.{Stamp}
use Rattle.versions.specs.Rows.{stamp, joined_stamps}
use Rattle.versions.specs.Rowing.{row_built, stamp_read}
use Rattle.versions.proofs.Arrays.{from_fn_at}
use Rattle.versions.proofs.join.RowJoin.join.Goals as goal

pub returns : goal.returns
returns c =
    let a = c.args.self.now in
    let b = c.args.other.now in
    let join = λ (k : ℕ). joined_stamps (get_or a.stamps k (stamp 0)) (get_or b.stamps k (stamp 0)) in
    let each = from_fn_at join (λ k y q called. search rules) c.from_fn.result 32 c.from_fn.ensures.items in
    row_built _ _ c.from_fn.ensures.items.long
    (λ k h. omega (arith, ap (λ (s : Stamp). s.number) (each k (stamp 0) h), stamp_read a k h, stamp_read b k h))
