-- What a queue holds, and what a closure computes of its items.
use Rattle.std.specs.Prelude.{◌≡◌, ℕ, List, take}
use Rattle.std.specs.Borrow.{Bor, MutBor}
use Rattle.std.specs.Fn.{Shared, FnReturnsAt}
use Rattle.store.specs.declared.queue.Queue.{Queue}

-- the items of a queue, in order: what stands in the places past them is no part of it
abbrev pub items_of : {T : Type 0} {N : ℕ} → Queue T N → List T
items_of q = take q.len q.places

-- at a `&` to any value, a call of f returns what h gives of that value
abbrev pub Computes : {F T R : Type 0} → Shared F (Bor T × Unit {0}) R → F → (T → R) → Type 0
Computes {T = T} {R = R} g f h = (x : T) (r : R) → FnReturnsAt g f x r → r ≡ h x

-- at a `&mut` to any value, a call of f leaves there what h gives of that value
abbrev pub Changes : {F T : Type 0} → Shared F (MutBor T × Unit {0}) (Unit {0} × (MutBor T × Unit {0})) → F → (T → T) → Type 0
Changes {T = T} g f h = (before after : MutBor T) → g.post f (before, tt) (tt, (after, tt)) → after.now ≡ h before.now
