-- A poll layer over an exact make of store is exact.
use Rattle.std.proofs.Common.{◌≡◌, ℕ, Ok, Err, rules}
use Rattle.versions.specs.declared.version.Version.{Version}
use Rattle.store.specs.Kinds.{Kind, EachStepHasOneOutcome, RefusedKeeps}
use Rattle.store.specs.Puts.{PutAnswer}
use Rattle.store.specs.declared.put_refusal.PutRefusal.{PutRefusal}
use Rattle.poll.specs.Poll.{poll_kind, answer_passed_up}

-- each step has one outcome if each step below has
pub poll_one : (K : Kind) → EachStepHasOneOutcome K → EachStepHasOneOutcome (poll_kind K)
poll_one K below = search rules

-- a refusal above is a refusal below, which left the state there as it was
pub refused : (K : Kind) → RefusedKeeps K → (s : K.State) (site : ℕ) (v : Version) (a : PutAnswer) (e : PutRefusal) (t : K.State)
    → K.stored s site v a t → Err e ≡ answer_passed_up a → t ≡ s
refused K keeps s site v (Ok done) e t put same = cc
refused K keeps s site v (Err f) e t put same = keeps s site v f t put

-- a refused put leaves the whole state if it does below
pub poll_keeps : (K : Kind) → RefusedKeeps K → RefusedKeeps (poll_kind K)
poll_keeps K below = search rules
