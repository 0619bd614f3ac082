-- Registers: a place for one version, by the register rule.
use Rattle.std.specs.Prelude.{ℕ, zero, suc, max, Bool, true, cond, ◌&&◌, List, [], ◌∷◌, ◌++◌, Some, None, Option, ◌==◌, nat_lt}
use Rattle.std.specs.Option.{option_to_list}
use Rattle.stamps.specs.Numbers.{keys, sites}
use Rattle.versions.specs.Versions.{is_version}
use Rattle.versions.specs.declared.version.Version.{Version}
use Rattle.causal.specs.Tables.{Table, held_stamp}

-- what stands at a key is a version of that key, or none
abbrev pub is_placed : ℕ → Option Version → Bool
is_placed key None = true
is_placed key (Some v) = is_version v && v.key == key

-- the register rule: a register takes a version only if its stamp is higher than the one there
abbrev pub taken : Option Version → Version → Option Version
taken held v = cond (nat_lt (held_stamp held) v.stamp.number) (Some v) held

-- registers by key, after a version has come to the one of its key
abbrev pub came_to : Table → Version → Table
came_to t v k = cond (k == v.key) (taken (t k) v) (t k)

-- registers by key, after some versions have come, first to last
abbrev pub came_all : Table → List Version → Table
came_all t [] = t
came_all t (v ∷ vs) = came_all (came_to t v) vs

-- registers by key, after one has been written
abbrev pub written_to : Table → ℕ → Option Version → Table
written_to t key o k = cond (k == key) o (t k)

-- registers for each site and key
abbrev pub Sites : Type 0
Sites = ℕ → Table

-- registers for each site and key, after a version has come to a site
abbrev pub came_at : Sites → ℕ → Version → Sites
came_at t site v s = cond (s == site) (came_to (t s) v) (t s)

-- places for each site and key, after one has been written
abbrev pub written_at : Sites → ℕ → ℕ → Option Version → Sites
written_at t site key o s k = cond (s == site && k == key) o (t s k)

-- the versions that registers by key hold at the keys below n, lowest key first
unfoldable pub held_below : ℕ → Table → List Version
held_below zero t = []
held_below (suc n) t = held_below n t ++ option_to_list (t n)

-- every version that registers by key hold
abbrev pub all_held : Table → List Version
all_held t = held_below keys t

-- the versions that registers for each site and key hold at the sites below n, lowest site first
unfoldable pub held_at_below : ℕ → Sites → List Version
held_at_below zero t = []
held_at_below (suc n) t = held_at_below n t ++ all_held (t n)

-- every version that registers for each site and key hold
abbrev pub all_held_at : Sites → List Version
all_held_at t = held_at_below sites t

-- the highest stamp of a key among versions, 0 where there is none of that key
abbrev pub highest_of_key : ℕ → List Version → ℕ
highest_of_key key [] = 0
highest_of_key key (v ∷ vs) = max (cond (v.key == key) v.stamp.number 0) (highest_of_key key vs)
