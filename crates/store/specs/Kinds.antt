-- A make of store, and what is owed of it.
use Rattle.std.specs.Prelude.{◌≡◌, ℕ, Err}
use Rattle.versions.specs.declared.version.Version.{Version}
use Rattle.store.specs.Meanings.{Meaning, Lawful, Passed}
use Rattle.store.specs.Puts.{PutAnswer, PutMeans}
use Rattle.store.specs.declared.put_refusal.PutRefusal.{PutRefusal}

-- a make of store, in the subject's words
pub record Kind : Type 1 where
  -- what a store of this make is at a moment
  pub State : Type 0
  -- what holds of every such store
  pub good : State → Type 0
  -- what a state means
  pub means : State → Meaning
  -- a put at a site of a version, from a state, may give this answer and leave this state
  pub stored : State → ℕ → Version → PutAnswer → State → Type 0
  -- a tick, from a state, may leave this state
  pub ticked : State → State → Type 0

-- the laws of a make: good states mean lawfully, and its steps keep good and do to the meaning what they may
pub record Sound (K : Kind) : Type 0 where
  pub lawful : (s : K.State) → K.good s → Lawful (K.means s)
  pub put_keeps : (s : K.State) (site : ℕ) (v : Version) (answer : PutAnswer) (t : K.State) → K.good s → K.stored s site v answer t → K.good t
  pub put_means :
      (s : K.State) (site : ℕ) (v : Version) (answer : PutAnswer) (t : K.State) → K.good s → K.stored s site v answer t
      → PutMeans (K.means s) site v answer (K.means t)
  pub tick_keeps : (s t : K.State) → K.good s → K.ticked s t → K.good t
  pub tick_means : (s t : K.State) → K.good s → K.ticked s t → Passed (K.means s) (K.means t)

-- every step of a make has one outcome: one answer and one state
pub record EachStepHasOneOutcome (K : Kind) : Type 0 where
  pub one_put :
      (s : K.State) (site : ℕ) (v : Version) (answer answer' : PutAnswer) (t t' : K.State)
      → K.stored s site v answer t → K.stored s site v answer' t' → (answer ≡ answer') × (t ≡ t')
  pub one_tick : (s t t' : K.State) → K.ticked s t → K.ticked s t' → t ≡ t'

-- a refused put leaves the whole state as it was
abbrev pub RefusedKeeps : Kind → Type 0
RefusedKeeps K =
    (s : K.State) (site : ℕ) (v : Version) (e : PutRefusal) (t : K.State) → K.stored s site v (Err e) t → t ≡ s
