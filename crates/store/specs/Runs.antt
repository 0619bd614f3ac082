-- Runs: what may be done to a store, in lists, the newest first.
use Rattle.std.specs.Prelude.{◌≡◌, ℕ, zero, suc, ◌⊎◌, List, [], ◌∷◌, ◌++◌, Ok, Err}
use Rattle.versions.specs.declared.version.Version.{Version}
use Rattle.store.specs.Kinds.{Kind}
use Rattle.store.specs.Puts.{PutAnswer}

-- what may be done to a store: a put, with its answer, or a tick
pub data Deed : Type 0 where
  did_put : ℕ → Version → PutAnswer → Deed
  did_tick : Deed

-- one deed leads from a state to a state
abbrev pub Does : (K : Kind) → K.State → Deed → K.State → Type 0
Does K s (did_put site v answer) t = K.stored s site v answer t
Does K s did_tick t = K.ticked s t

-- a list of deeds, the newest first, leads from a state to a state
abbrev pub Ran : (K : Kind) → K.State → List Deed → K.State → Type 0
Ran K s [] t = t ≡ s
Ran K s (d ∷ ds) t = (u : K.State) × Ran K s ds u × Does K u d t

-- the number of ticks among deeds
abbrev pub ticks_of : List Deed → ℕ
ticks_of [] = 0
ticks_of (did_put site v answer ∷ ds) = ticks_of ds
ticks_of (did_tick ∷ ds) = suc (ticks_of ds)

-- what a put adds to the accepted puts: its version, if it was accepted
abbrev pub accepted_by : PutAnswer → Version → List Version
accepted_by (Ok _) v = v ∷ []
accepted_by (Err e) v = []

-- the versions of the accepted puts, in the order in which they were put
abbrev pub accepted_of : List Deed → List Version
accepted_of [] = []
accepted_of (did_put site v answer ∷ ds) = accepted_of ds ++ accepted_by answer v
accepted_of (did_tick ∷ ds) = accepted_of ds

-- a version was put at a site and accepted, with so many ticks since
abbrev pub PutAgo : List Deed → ℕ → Version → ℕ → Type 0
PutAgo [] site v ticks = ⊥
PutAgo (did_put site' v' answer ∷ ds) site v ticks = ((answer ≡ Ok tt) × (site ≡ site') × (v ≡ v') × (ticks ≡ 0)) ⊎ PutAgo ds site v ticks
PutAgo (did_tick ∷ ds) site v zero = ⊥
PutAgo (did_tick ∷ ds) site v (suc ticks) = PutAgo ds site v ticks
