-- The smallest store: one register for each key, the same for every site, without delay.
use Rattle.std.specs.Prelude.{◌≡◌, ℕ, true, None}
use Rattle.causal.specs.Tables.{Table, held_stamp}
use Rattle.store.specs.Holding.{registered}
use Rattle.store.specs.Kinds.{Kind}
use Rattle.store.specs.Meanings.{Meaning}
use Rattle.store.specs.Puts.{PutLeaves}
use Rattle.store.specs.Registers.{is_placed, came_to, all_held}
use Rattle.smallest.specs.declared.smallest.Smallest.{Smallest}

-- what registers mean: every site shows them, their stamps are the peaks, and there is never a wait or a bar
abbrev pub registers_mean : Table → Meaning
registers_mean t = record { kept = all_held t; shown = λ site. t; peak = λ key. held_stamp (t key); wait = 0; bar = None }

-- the make: a put comes to the register of its key, a tick does nothing
abbrev pub smallest_kind : Kind
smallest_kind =
    record {
      State = Table;
      good = λ t. (k : ℕ) → is_placed k (t k) ≡ true;
      means = registers_mean;
      stored = λ t site v answer u. PutLeaves None t (came_to t v) site v answer u;
      ticked = λ t u. u ≡ t;
    }

-- the state of a smallest store is what its registers hold
abbrev pub smallest_state : Smallest → Table
smallest_state s = registered s.registers
