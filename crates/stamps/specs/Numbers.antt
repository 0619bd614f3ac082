-- Every number of the rules, once. src/limits.rt has the same numbers for the code.
use Rattle.std.specs.Prelude.{ℕ, ◌%◌}

-- keys are 0 to 31
abbrev pub keys : ℕ
keys = 32

-- terminals are 0 to 7
abbrev pub terminals : ℕ
terminals = 8

-- a stamp is its counter times this factor, plus its terminal
abbrev pub factor : ℕ
factor = terminals

-- sites are 0 to 3
abbrev pub sites : ℕ
sites = 4

-- terminal t stands at site t mod 4
abbrev pub site_of : ℕ → ℕ
site_of terminal = terminal % sites

-- counters are 1 to 1,000,000
abbrev pub counter_limit : ℕ
counter_limit = 1_000_000

-- amounts are 0 to 99,999,999 cents
abbrev pub amount_limit : ℕ
amount_limit = 99_999_999

-- a bar's depth is 0 to 255
abbrev pub depth_limit : ℕ
depth_limit = 255

-- replacing cards are 0 to 999,999
abbrev pub card_limit : ℕ
card_limit = 999_999
