use Rattle.std.proofs.Common.{◌∙◌, arith}
use Rattle.std.proofs.lemmas.List.{append_assoc, append-nil}
use Rattle.std.proofs.lemmas.Bool.Decides.{nat_tests}
use Rattle.store.specs.Holding.{registered_at}
use Rattle.replicas.specs.Forecasting.{cond_at}
use Rattle.replicas.specs.Sending.{sent_more, sent_none}
use Rattle.replicas.proofs.Putting.{put_more, sent_fits}
use Rattle.replicas.proofs.network.Network.put.Goals as goal

pub loop-to-init : goal.loop-to-init
loop-to-init c = record {
  now = λ s k. simp cond_at (grind (arith, nat_tests));
  later = grind (arith, sent_none, append-nil);
  bounded = grind arith;
}

pub send-requires : goal.send-requires
send-requires c =
    let steps = c.in-Some.ensures.steps in
    record {
      valid = c.requires.valid;
      room = sent_fits c.loop-to.to-iterator.next _ _ _ _ _ _ _ steps.1 c.between.ensures.time c.loop-to.invariant.later steps.0
          c.between.ensures.sites.0 c.requires.room;
    }

pub loop-to-preserved : goal.loop-to-preserved
loop-to-preserved c =
    let steps = c.in-Some.ensures.steps in
    record {
      now = λ s k. c.send.ensures.now s k ∙ put_more c.loop-to.to-iterator.next _ _ _ _ _ _ (registered_at c.args.self.now.registers) _ steps.1 steps.2
          c.between.ensures.time c.loop-to.invariant.now s k;
      later = grind (arith, sent_more, append_assoc);
      bounded = omega arith;
    }
