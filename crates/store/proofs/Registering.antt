-- Registers: what stands in them, and what a version that comes to one leaves.
use Rattle.std.proofs.Common.{◌≡◌, ℕ, ◌<◌, ◌≤◌, max, true, ◌≢◌, ◌⊎◌, length, Some, None, Option, refl, sym, ap, ◌∙◌, inl, inr, ⊎_elim, arith}
use Rattle.std.proofs.lemmas.Grind.{common_steps}
use Rattle.std.proofs.lemmas.Bool.{cases_eq, cases_lt}
use Rattle.stamps.specs.Numbers.{keys, sites}
use Rattle.versions.specs.Versions.{is_version}
use Rattle.versions.specs.declared.version.Version.{Version}
use Rattle.causal.specs.Tables.{Table, held_stamp}
use Rattle.causal.proofs.Tabling.{past_held}
use Rattle.std.specs.List.{slice_get}
use Rattle.std.proofs.lemmas.Option.{slice_get_past}
use Rattle.store.specs.Holding.{registered_if, registered_at}
use Rattle.store.specs.Meanings.{InAskRange}
use Rattle.store.specs.Registers.{is_placed, taken, came_to, came_at, written_at, Sites}
use Rattle.store.specs.declared.registers.Registers.{Registers}
use Rattle.store.specs.declared.site_registers.SiteRegisters.{SiteRegisters}

-- what is placed is a version
pub placed_version : (key : ℕ) (o : Option Version) (v : Version) → is_placed key o ≡ true → o ≡ Some v → is_version v ≡ true
placed_version key o v p e = grind (arith, common_steps)

-- of its key
pub placed_key : (key : ℕ) (o : Option Version) (v : Version) → is_placed key o ≡ true → o ≡ Some v → v.key ≡ key
placed_key key o v p e = grind (arith, common_steps)

-- none is placed anywhere
pub placed_none : (key : ℕ) (o : Option Version) → o ≡ None → is_placed key o ≡ true
placed_none key o e = grind arith

-- a version is placed at its key
pub placed_some : (key : ℕ) (v : Version) → is_version v ≡ true → v.key ≡ key → is_placed key (Some v) ≡ true
placed_some key v is at = grind (arith, common_steps)

-- a register takes a higher stamp
pub taken_higher : (o : Option Version) (v : Version) → held_stamp o < v.stamp.number → taken o v ≡ Some v
taken_higher o v up = grind (arith, common_steps)

-- and no other
pub taken_lower : (o : Option Version) (v : Version) → v.stamp.number ≤ held_stamp o → taken o v ≡ o
taken_lower o v down = grind (arith, common_steps)

-- so it has the higher of both stamps
pub taken_stamp : (o : Option Version) (v : Version) → held_stamp (taken o v) ≡ max (held_stamp o) v.stamp.number
taken_stamp o v = grind (arith, common_steps)

-- and holds what it held or what came
pub taken_one : (o : Option Version) (v w : Version) → taken o v ≡ Some w → (w ≡ v) ⊎ (o ≡ Some w)
taken_one o v w e = grind (arith, common_steps)

-- what is placed and what comes placed leave something placed
pub taken_placed : (key : ℕ) (o : Option Version) (v : Version) → is_placed key o ≡ true → is_version v ≡ true → v.key ≡ key
    → is_placed key (taken o v) ≡ true
taken_placed key o v p is at = grind (arith, common_steps)

-- registers by key, at the key of what came
pub came_here : (t : Table) (v : Version) (k : ℕ) → k ≡ v.key → came_to t v k ≡ taken (t k) v
came_here t v k e = grind (arith, common_steps)

-- and at another
pub came_there : (t : Table) (v : Version) (k : ℕ) → k ≢ v.key → came_to t v k ≡ t k
came_there t v k ne = grind (arith, common_steps)

-- a version that is not higher leaves all registers as they are
pub came_left : (t : Table) (v : Version) → v.stamp.number ≤ held_stamp (t v.key) → (k : ℕ) → t k ≡ came_to t v k
came_left t v down k = ⊎_elim here (λ ne. sym (came_there t v k ne)) (cases_eq k v.key)
  where
    here : k ≡ v.key → t k ≡ came_to t v k
    here e = sym (came_here t v k e ∙ taken_lower (t k) v (omega (arith, down, ap (λ (j : ℕ). held_stamp (t j)) e)))

-- all stays placed
pub came_placed : (t : Table) (v : Version) → ((k : ℕ) → is_placed k (t k) ≡ true) → is_version v ≡ true → (k : ℕ) → is_placed k (came_to t v k) ≡ true
came_placed t v p is k = grind (arith, common_steps, taken_placed, p k)

-- registers by site, at the site that a version came to
pub came_at_here : (t : Sites) (site : ℕ) (v : Version) (s k : ℕ) → s ≡ site → came_at t site v s k ≡ came_to (t s) v k
came_at_here t site v s k e = grind (arith, common_steps)

-- and at another
pub came_at_there : (t : Sites) (site : ℕ) (v : Version) (s k : ℕ) → s ≢ site → came_at t site v s k ≡ t s k
came_at_there t site v s k ne = grind (arith, common_steps)

-- all stays placed at every site
pub came_at_placed : (t : Sites) (site : ℕ) (v : Version) → ((s k : ℕ) → is_placed k (t s k) ≡ true) → is_version v ≡ true
    → (s k : ℕ) → is_placed k (came_at t site v s k) ≡ true
came_at_placed t site v p is s k = grind (arith, common_steps, came_placed (t s) v (p s) is k, p s k)

-- what is written stands at its key, and all else as before
pub written_placed : (t : Sites) (site key : ℕ) (x : Option Version) → is_placed key x ≡ true → ((s k : ℕ) → is_placed k (t s k) ≡ true)
    → (s k : ℕ) → is_placed k (written_at t site key x s k) ≡ true
written_placed t site key x new old s k = grind (arith, common_steps, old s k)

-- writing a higher version at its key is what the rule says
pub written_higher : (t : Sites) (site : ℕ) (v : Version) → held_stamp (t site v.key) < v.stamp.number
    → (s k : ℕ) → written_at t site v.key (Some v) s k ≡ came_at t site v s k
written_higher t site v up s k = grind (arith, common_steps)

-- a site past the sites, or a key past the keys, is out of range
pub out_of_ask_range : (site key : ℕ) → (sites ≤ site) ⊎ ((site < sites) × (keys ≤ key)) → InAskRange site key → ⊥
out_of_ask_range site key (inl past) h = omega (arith, past, h.0)
out_of_ask_range site key (inr past) h = omega (arith, past.1, h.1)

-- registers hold nothing out of range
pub past_registers : (r : SiteRegisters) (site key : ℕ) → (InAskRange site key → ⊥) → registered_at r site key ≡ None
past_registers r site key out =
    ⊎_elim (λ inside. past_key (slice_get r.sites site) (grind arith))
    (λ past. grind (arith, slice_get_past r.sites site past)) (cases_lt site (length r.sites))
  where
    past_key : (o : Option Registers) → keys ≤ key → registered_if o key ≡ None
    past_key None h = refl
    past_key (Some q) h = past_held q.held key h
