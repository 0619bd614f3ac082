-- The numbers of replicas, once. src/limits.rt has the same numbers for the code.
use Rattle.std.specs.Prelude.{ℕ}

-- a line time is 0 to 16 ticks
abbrev pub line_limit : ℕ
line_limit = 16

-- there are six pairs of sites
abbrev pub pairs : ℕ
pairs = 6

-- at most 96 deliveries are pending
abbrev pub delivery_limit : ℕ
delivery_limit = 96

-- a put is barred when fewer than 3 places are free, as many as there are other sites
abbrev pub places_wanted : ℕ
places_wanted = 3
