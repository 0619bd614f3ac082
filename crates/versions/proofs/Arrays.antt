-- What `std::array::from_fn` gives, place by place.
use Rattle.std.proofs.Common.{◌≡◌, ℕ, zero, suc, ◌+◌, ◌<◌, ◌≤◌, List, get_or, subst, ap, ◌∙◌, sym, inl, inr, arith}
use Rattle.std.proofs.lemmas.Bool.{cases_eq}
use Rattle.std.specs.Array.{IsFromFnResultFrom, IsFromFnResult}
use Rattle.std.specs.Fn.{Called}
use denote.Param.Members.{Mut}

-- a function that changes nothing of what it captures, and gives value k for each k
module _ {F B : Type 0} {g : Mut F (ℕ × Unit {0}) B} {f : F} (value : ℕ → B)
    (gives : (k : ℕ) (y : B) (q : F) → Called g f (k, tt) y q → (q ≡ f) × (y ≡ value k)) where
  from_fn_between : (ys : List B) (i n : ℕ) → IsFromFnResultFrom g f ys i n → (k : ℕ) (d : B) → i ≤ k → k < i + n → get_or ys k d ≡ value k
  from_fn_between ys i zero h k d low high = absurd (omega arith)
  from_fn_between ys i (suc n) h k d low high =
      let here = gives i h.1 h.0 h.3 in
      elim (cases_eq k i) [
        | inl e ↦ ap (λ (j : ℕ). get_or ys j d) e ∙ h.2.1 d ∙ here.1 ∙ ap value (sym e)
        | inr other ↦ from_fn_between ys (i + 1) n (subst (λ (p : F). IsFromFnResultFrom g p ys (i + 1) n) here.0 h.4) k d (omega arith) (omega arith)
      ]

  pub from_fn_at : (ys : List B) (n : ℕ) → IsFromFnResult g f ys n → (k : ℕ) (d : B) → k < n → get_or ys k d ≡ value k
  from_fn_at ys n h k d within = from_fn_between ys 0 n h.each k d (omega arith) (omega arith)
