use Rattle.store.specs.Holding.{registered}
use Rattle.smallest.specs.Smallness.{smallest_new}
use Rattle.smallest.proofs.smallest.Smallest.new.Goals as goal

pub returns : goal.returns
returns c = record { empty = c.new-registers.ensures; new = smallest_new (registered c.new-registers.result) c.new-registers.ensures }
