-- How a store answers.
use Rattle.std.specs.Prelude.{◌≡◌, ℕ, ◌+◌, min, Some, None, Ok, Err, Option, Result, MatchResult}
use Rattle.stamps.specs.Numbers.{depth_limit}
use Rattle.stamps.specs.declared.refusal.Bar.{Bar}
use Rattle.stamps.specs.declared.refusal.Refusal.TheVariants.{OutOfRange}
use Rattle.stamps.specs.declared.refusal.Refusal.{Refusal}
use Rattle.versions.specs.declared.version.Version.{Version}
use Rattle.store.specs.Meanings.{Meaning, InAskRange, InPutRange, Unaltered, Took}
use Rattle.store.specs.declared.put_refusal.PutRefusal.TheVariants.{Unfit, Barring}
use Rattle.store.specs.declared.put_refusal.PutRefusal.{PutRefusal}

-- what a put answers
abbrev pub PutAnswer : Type 0
PutAnswer = Result (Unit {0}) PutRefusal

-- the refusal that a refused put gets: 14, or its bar's
abbrev pub refusal_of : PutRefusal → Refusal
refusal_of Unfit = OutOfRange
refusal_of (Barring b) = b.refusal

-- a bar as the layer above gives it: the depth is one more, never above 255
abbrev pub bar_passed_up : Bar → Bar
bar_passed_up b = record { refusal = b.refusal; depth = min depth_limit (b.depth + 1) }

-- a refusal as the layer above gives it: a bar is passed up, what does not fit stays so
abbrev pub refusal_passed_up : PutRefusal → PutRefusal
refusal_passed_up Unfit = Unfit
refusal_passed_up (Barring b) = Barring (bar_passed_up b)

-- asking answers the version shown; a site or key out of range is refused 14
abbrev pub Asked : Meaning → ℕ → ℕ → Result (Option Version) Refusal → Type 0
Asked m site key answer =
    MatchResult answer (λ found. InAskRange site key × (found ≡ m.shown site key)) (λ e. (e ≡ OutOfRange) × (InAskRange site key → ⊥))

-- the rule of every put: out of range first, then the bar, else accepted; what a refusal leaves and what an
-- accepted put leaves is said of X, a store's state or its meaning
pub data Answered {X : Type 0} (bar : Option Bar) (left : X → Type 0) (accepted : X → Type 0) (site : ℕ) (v : Version) (answer : PutAnswer) (after : X) : Type 0 where
  -- 14: the site is out of range, or the record is no version
  refused_unfit : (InPutRange site v → ⊥) → answer ≡ Err Unfit → left after → Answered bar left accepted site v answer after
  -- there is a bar: the put is refused with it
  refused_barred : InPutRange site v → (b : Bar) → bar ≡ Some b → answer ≡ Err (Barring b) → left after → Answered bar left accepted site v answer after
  -- there is none: the put is accepted
  put_accepted : InPutRange site v → bar ≡ None → answer ≡ Ok tt → accepted after → Answered bar left accepted site v answer after

-- what a put may do to the meaning of any store: a refused one alters no part of it
abbrev pub PutMeans : Meaning → ℕ → Version → PutAnswer → Meaning → Type 0
PutMeans m site v answer n = Answered m.bar (Unaltered m) (Took m v) site v answer n

-- the exact put of a store whose states are X: refused, it leaves the state; accepted, it leaves the one given
abbrev pub PutLeaves : {X : Type 0} → Option Bar → X → X → ℕ → Version → PutAnswer → X → Type 0
PutLeaves bar before accepted site v answer after = Answered bar (λ x. x ≡ before) (λ x. x ≡ accepted) site v answer after
