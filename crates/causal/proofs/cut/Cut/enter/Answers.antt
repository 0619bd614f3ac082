use Rattle.versions.proofs.Versioning.{parts_of_version}
use Rattle.causal.specs.Holding.{holding}
use Rattle.causal.proofs.Tabling.{causal_with, face_set}
use Rattle.causal.proofs.cut.Cut.enter.Goals as goal

pub bounds-self-version : goal.bounds-self-version
bounds-self-version c = (parts_of_version c.args.version.now (c.may_enter.ensures.0 c.if-not-may_enter.false).is_a_version).keyed

pub invariant_of-self : goal.invariant_of-self
invariant_of-self c =
    let cut = c.args.self.now in
    let v = c.args.version.now in
    let fit = c.may_enter.ensures.0 c.if-not-may_enter.false in
    record {
      faced = face_set cut.face (holding cut) _ v.key v cut.faced (parts_of_version v fit.is_a_version).keyed c.set.ensures;
      causal = causal_with (holding cut) _ v.key v c.set.ensures fit.above fit.covered cut.causal;
    }
