-- Versions that come to registers one after the other.
use Rattle.std.specs.Prelude.{◌≡◌, ℕ, ◌+◌, ◌<◌, ◌≤◌, max, true, cond, ◌⊎◌, List, [], ◌∷◌, ◌++◌, length, take, Some, None, Option, ◌==◌, slice_index_or, refl}
use Rattle.std.proofs.Common.{inl, inr, ⊎_elim, sym, ap, ◌∙◌, arith}
use Rattle.std.proofs.lemmas.List.{take_more}
use Rattle.std.proofs.lemmas.Bool.{and_parts}
use Rattle.std.proofs.lemmas.Bool.Decides.{nat_tests}
use Rattle.stamps.specs.Numbers.{keys}
use Rattle.versions.specs.Joins.{In}
use Rattle.versions.specs.Versions.{is_version}
use Rattle.versions.specs.declared.version.Version.{Version}
use Rattle.causal.specs.Tables.{Table, held_stamp}
use Rattle.store.specs.Registers.{is_placed, taken, came_to, came_all, all_held, highest_of_key}
use Rattle.store.proofs.Keeping.{in_held, from_held, highest_at, highest_under}
use Rattle.store.proofs.Registering.{placed_key, taken_stamp, taken_one, came_placed}
use Rattle.shared_log.specs.Log.{are_versions}

-- one register, once a version has come
abbrev pub taken_at : ℕ → Option Version → Version → Option Version
taken_at key held v = cond (key == v.key) (taken held v) held

-- first some, then others
pub came_append : (t : Table) (vs ws : List Version) → came_all t (vs ++ ws) ≡ came_all (came_all t vs) ws
came_append t [] ws = refl
came_append t (v ∷ vs) ws = came_append (came_to t v) vs ws

-- what a register holds once a version has come depends on nothing but what it held
pub came_same : (t u : Table) (v : Version) (k : ℕ) → t k ≡ u k → came_to t v k ≡ came_to u v k
came_same t u v k e = ap (λ (o : Option Version). taken_at k o v) e

-- and so once several have
pub came_all_same : (t u : Table) (vs : List Version) (k : ℕ) → t k ≡ u k → came_all t vs k ≡ came_all u vs k
came_all_same t u [] k e = e
came_all_same t u (v ∷ vs) k e = came_all_same (came_to t v) (came_to u v) vs k (came_same t u v k e)

-- one more
pub came_more : (t : Table) (vs : List Version) (i : ℕ) (d : Version) (k : ℕ) → i < length vs
    → came_all t (take (i + 1) vs) k ≡ taken_at k (came_all t (take i vs) k) (slice_index_or vs i d)
came_more t vs i d k h = ap (λ (ws : List Version). came_all t ws k) (take_more vs i d h) ∙ ap (λ (f : Table). f k) (came_append t (take i vs) (slice_index_or vs i d ∷ []))

-- a register has the highest stamp of what it held and what came
pub came_stamp : (t : Table) (vs : List Version) (k : ℕ) → held_stamp (came_all t vs k) ≡ max (held_stamp (t k)) (highest_of_key k vs)
came_stamp t [] k = omega arith
came_stamp t (v ∷ vs) k = grind (arith, nat_tests, came_stamp (came_to t v) vs k, taken_stamp (t k) v)

-- and holds one of those
pub came_one : (t : Table) (vs : List Version) (k : ℕ) (w : Version) → came_all t vs k ≡ Some w → In w vs ⊎ (t k ≡ Some w)
came_one t [] k w e = inr e
came_one t (v ∷ vs) k w e = ⊎_elim (λ i. inl (inr i)) first (came_one (came_to t v) vs k w e)
  where
    first : came_to t v k ≡ Some w → In w (v ∷ vs) ⊎ (t k ≡ Some w)
    first f = grind (arith, nat_tests, taken_one (t k) v w)

pub came_all_placed : (t : Table) (vs : List Version) → ((k : ℕ) → is_placed k (t k) ≡ true) → are_versions vs ≡ true
    → (k : ℕ) → is_placed k (came_all t vs k) ≡ true
came_all_placed t [] placed all = placed
came_all_placed t (v ∷ vs) placed all =
    let p = and_parts (is_version v) (are_versions vs) all in came_all_placed (came_to t v) vs (came_placed t v placed p.0) p.1

-- the highest stamp of a key in registers is the one in its own
pub held_highest : (t : Table) (key : ℕ) → key < keys → ((k : ℕ) → is_placed k (t k) ≡ true) → highest_of_key key (all_held t) ≡ held_stamp (t key)
held_highest t key h placed = omega (arith, under, over (t key) refl)
  where
    under : highest_of_key key (all_held t) ≤ held_stamp (t key)
    under =
        highest_under key (all_held t) (held_stamp (t key))
        (λ v i at. let r = from_held keys t v i in
        let here : r.0 ≡ key = sym (placed_key r.0 (t r.0) v (placed r.0) r.2) ∙ at in
        grind arith)

    over : (o : Option Version) → t key ≡ o → held_stamp (t key) ≤ highest_of_key key (all_held t)
    over None e = grind arith
    over (Some v) e = grind (arith, highest_at key (all_held t) v (in_held keys t key v h e) (placed_key key (t key) v (placed key) e))
