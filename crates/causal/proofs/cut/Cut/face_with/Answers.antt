use Rattle.std.proofs.Common.{rules}
use Rattle.versions.specs.Rowing.{row_built}
use Rattle.causal.specs.Holding.{holding}
use Rattle.causal.proofs.Tabling.{face_read, face_sized}
use Rattle.causal.proofs.cut.Cut.face_with.Goals as goal

pub loop-key-init : goal.loop-key-init
loop-key-init c =
    let cut = c.args.self.now in
    record {
      sized = face_sized cut.face (holding cut) cut.faced;
      stamped = λ k h. let read = face_read cut.face (holding cut) cut.faced k h in search rules;
    }

pub returns : goal.returns
returns c =
    row_built _ _ c.loop-key.invariant.sized
    (λ k h.
    let stamped = c.loop-key.invariant.stamped k h in
    let gone = c.in-None.ensures.steps.0 k in
    search rules)
