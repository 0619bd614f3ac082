-- Stamps. A stamp is one number: its counter times the factor, plus its terminal. 0 stands for none.
use Rattle.std.specs.Prelude.{ℕ, ◌+◌, ◌*◌, ◌/◌, ◌%◌, ◌<◌, ◌≤◌, Bool, ◌&&◌, ◌||◌, ◌==◌, nat_le, nat_lt}
use Rattle.stamps.specs.Numbers.{terminals, factor, counter_limit}

-- the stamp of a counter and a terminal
unfoldable pub stamp_of : ℕ → ℕ → ℕ
stamp_of counter terminal = counter * factor + terminal

-- the counter of a stamp; 0 for none
unfoldable pub counter_of : ℕ → ℕ
counter_of n = n / factor

-- the terminal of a stamp
unfoldable pub terminal_of : ℕ → ℕ
terminal_of n = n % factor

-- a counter is 1 to the limit, a terminal is below their number
abbrev pub InStampRange : ℕ → ℕ → Type 0
InStampRange counter terminal = (1 ≤ counter) × (counter ≤ counter_limit) × (terminal < terminals)

-- a number is a stamp when its counter is in range (its terminal always is)
abbrev pub is_stamp : ℕ → Bool
is_stamp n = nat_le 1 (counter_of n) && nat_le (counter_of n) counter_limit

-- a stamp of a row is older than a counter when it is none, or a stamp of a lower counter
abbrev pub is_older : ℕ → ℕ → Bool
is_older counter n = n == 0 || (is_stamp n && nat_lt (counter_of n) counter)
