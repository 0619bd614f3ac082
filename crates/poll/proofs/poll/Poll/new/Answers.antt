use Rattle.poll.specs.Holding.{layer_of}
use Rattle.poll.specs.declared.poll.Poll.{Poll}
use Rattle.poll.specs.Layering.{poll_new}
use Rattle.poll.proofs.poll.Poll.new.Goals as goal

pub returns-clause-new : goal.returns-clause-new
returns-clause-new g c =
    let made : Poll g.row.S.Denot = record { below = c.args.below; snapshot = c.new.result } in
    let layer = layer_of g.S.Store.kind g.S.Store.state made in
    λ new. poll_new g.S.Store.kind g.met.S.Store.sound layer (g.met.S.Store.good c.args.below) new c.new.ensures.empty
