use Rattle.std.proofs.Common.{sym, refl, ◌∙◌}
use Rattle.store.specs.Puts.{refused_barred}
use Rattle.replicas.specs.States.{replicas_state}
use Rattle.replicas.specs.Soundness.{put_good}
use Rattle.replicas.proofs.serve.ReplicasStore.put.Goals as goal

pub returns-in-Some : goal.returns-in-Some
returns-in-Some c =
    refused_barred c.in_ok-site.ensures.range c.in-Some.bar (sym c.bar.ensures ∙ c.in-Some.is) refl refl

pub invariant_of-self : goal.invariant_of-self
invariant_of-self c =
    let r = c.args.self.now in
    let put = c.in_ok-site.ensures.put in
    record {
      good = rw c.put.ensures (put_good (replicas_state r) c.in_ok-site.site c.args.version r.good (rw put.0 c.in_ok-site.ensures.range)
          (sym c.bar.ensures ∙ c.in_default.is));
    }
