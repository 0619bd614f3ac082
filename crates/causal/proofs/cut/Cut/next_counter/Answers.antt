use Rattle.causal.proofs.cut.Cut.next_counter.Goals as goal

pub returns : goal.returns
returns c = rw (← c.args.self.now.faced) c.counter_after.ensures
