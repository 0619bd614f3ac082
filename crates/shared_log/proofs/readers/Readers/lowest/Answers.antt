use Rattle.std.proofs.Common.{rules}
use Rattle.shared_log.specs.Positioning.{lowest_is}
use Rattle.shared_log.specs.Holding.{position_of}
use Rattle.shared_log.proofs.readers.Readers.lowest.Goals as goal

pub returns : goal.returns
returns c = lowest_is (position_of c.args.self.now) c.unwrap_or.result (search rules) (search rules)
