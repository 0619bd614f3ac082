-- What a cut holds, and what answers give.
use Rattle.causal.specs.Held.{held_in}
use Rattle.causal.specs.Tables.{Table}
use Rattle.causal.specs.declared.answers.Answers.{Answers}
use Rattle.causal.specs.declared.cut.Cut.{Cut}

-- what a cut holds at each key
abbrev pub holding : Cut → Table
holding c = held_in c.held

-- the answer at each key, or none
abbrev pub answered : Answers → Table
answered a = held_in a.given
