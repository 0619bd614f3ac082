use Rattle.std.proofs.Common.{ap, rules}
use Rattle.stamps.specs.declared.stamp.Stamp.{Stamp}
use Rattle.versions.specs.Rows.{stamp}
use Rattle.versions.specs.Rowing.{row_built}
use Rattle.versions.proofs.Arrays.{from_fn_at}
use Rattle.causal.specs.Held.{held_in}
use Rattle.causal.specs.Tables.{held_stamp}
use Rattle.causal.proofs.table.VersionTable.face.Goals as goal

pub returns : goal.returns
returns c =
    let each = from_fn_at (λ k. stamp (held_stamp (held_in c.args.self.now k))) (λ k y q called. search rules) c.from_fn.result 32 c.from_fn.ensures.items in
    row_built _ _ c.from_fn.ensures.items.long (λ k h. ap (λ (s : Stamp). s.number) (each k (stamp 0) h))
