use Rattle.std.proofs.Common.{◌≡◌, true, sym, ◌∙◌, rules}
use Rattle.versions.proofs.Versioning.{parts_of_version}
use Rattle.versions.specs.Rows.{Covers}
use Rattle.versions.specs.Versions.{is_version}
use Rattle.causal.specs.Holding.{holding}
use Rattle.causal.specs.Tables.{face_of}
use Rattle.causal.proofs.Tabling.{face_read}
use Rattle.causal.proofs.cut.Cut.may_enter.Goals.{then-is_version, else-is_version}
use Rattle.causal.proofs.cut.Cut.may_enter.Goals as goal

pub returns-then-covers : goal.returns-then-covers
returns-then-covers c =
    let cut = c.args.self.now in
    let v = c.args.version.now in
    let passed : (is_version v ≡ true) × Covers cut.face v.row =
    elim c.if-is_version.branch [
      | then-is_version w ↦ (sym c.is_version.ensures ∙ w.if-is_version.true, w.covers.ensures.0 (search rules))
      | else-is_version w ↦ search rules
    ] in
    let covered : Covers (face_of (holding cut)) v.row = rw (← cut.faced) passed.1 in
    let read = face_read cut.face (holding cut) cut.faced v.key (parts_of_version v passed.0).keyed in
    (λ t. record { is_a_version = passed.0; covered = covered; above = search rules }, λ f. let above = f.above in search rules)
