-- The keys that are looked at before each post of the job.
use Rattle.std.specs.Prelude.{ℕ, Bool, ◌||◌, ◌==◌}
use Rattle.job.specs.declared.TheConstants.{OLD_CARD, REPLACEMENT, BALANCE}

-- whether a key is the old card's, its replacement's or the balance's
abbrev pub is_of_job : ℕ → Bool
is_of_job k = k == OLD_CARD || k == REPLACEMENT || k == BALANCE
