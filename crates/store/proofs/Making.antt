-- What every exact make of store owes for its puts, from what an accepted put does.
use Rattle.std.proofs.Common.{◌≡◌, ℕ, Some, None, Ok, Err, Option, sym, refl, ap, ◌∙◌, subst, arith}
use Rattle.stamps.specs.declared.refusal.Bar.{Bar}
use Rattle.versions.specs.declared.version.Version.{Version}
use Rattle.store.specs.Meanings.{Meaning, InPutRange, Unaltered, Took}
use Rattle.store.specs.Puts.{PutAnswer, PutMeans, PutLeaves, refused_unfit, refused_barred, put_accepted}
use Rattle.store.specs.declared.put_refusal.PutRefusal.TheVariants.{Barring}
use Rattle.store.specs.declared.put_refusal.PutRefusal.{PutRefusal}

-- a meaning is as it was
pub unaltered : (m : Meaning) → Unaltered m m
unaltered m =
    record { same_kept = (λ v i. i, λ v i. i); same_shown = λ site key h. refl; same_peaks = λ key h. refl; same_wait = refl; same_bar = refl }

pub unaltered_by : {X : Type 0} (means : X → Meaning) (before after : X) → after ≡ before → Unaltered (means before) (means after)
unaltered_by means before after e = subst (λ x. Unaltered (means before) (means x)) (sym e) (unaltered (means before))

-- there is a bar or there is none
pub bar_or_none : (b : Bar) → ◌≡◌ {A = Option Bar} (Some b) None → ⊥
bar_or_none b e = let z : ◌≡◌ {A = ℕ} 0 1 = cc in omega arith

pub ok_or_err : (e : PutRefusal) → ◌≡◌ {A = PutAnswer} (Err e) (Ok tt) → ⊥
ok_or_err e p = let z : ◌≡◌ {A = ℕ} 0 1 = cc in omega arith

-- what an accepted put means is all that is to be shown
pub put_means : {X : Type 0} (means : X → Meaning) (before accepted : X) (site : ℕ) (v : Version) (answer : PutAnswer) (after : X)
    → PutLeaves (means before).bar before accepted site v answer after
    → (InPutRange site v → (means before).bar ≡ None → Took (means before) v (means accepted)) → PutMeans (means before) site v answer (means after)
put_means means before accepted site v answer after (refused_unfit out a l) takes = refused_unfit out a (unaltered_by means before after l)
put_means means before accepted site v answer after (refused_barred within b e a l) takes = refused_barred within b e a (unaltered_by means before after l)
put_means means before accepted site v answer after (put_accepted within e a l) takes =
    put_accepted within e a (subst (λ x. Took (means before) v (means x)) (sym l) (takes within e))

-- so with what holds of every state
pub put_keeps : {X : Type 0} (good : X → Type 0) (bar : Option Bar) (before accepted : X) (site : ℕ) (v : Version) (answer : PutAnswer) (after : X)
    → good before → PutLeaves bar before accepted site v answer after → (InPutRange site v → bar ≡ None → good accepted) → good after
put_keeps good bar before accepted site v answer after g (refused_unfit out a l) keeps = subst good (sym l) g
put_keeps good bar before accepted site v answer after g (refused_barred within b e a l) keeps = subst good (sym l) g
put_keeps good bar before accepted site v answer after g (put_accepted within e a l) keeps = subst good (sym l) (keeps within e)

-- an exact put has one outcome
pub one_put : {X : Type 0} (bar : Option Bar) (before accepted : X) (site : ℕ) (v : Version) (answer answer' : PutAnswer) (t t' : X)
    → PutLeaves bar before accepted site v answer t → PutLeaves bar before accepted site v answer' t' → (answer ≡ answer') × (t ≡ t')
one_put bar before accepted site v answer answer' t t' (refused_unfit out a l) (refused_unfit out' a' l') = (a ∙ sym a', l ∙ sym l')
one_put bar before accepted site v answer answer' t t' (refused_unfit out a l) (refused_barred within b e a' l') = absurd (out within)
one_put bar before accepted site v answer answer' t t' (refused_unfit out a l) (put_accepted within e a' l') = absurd (out within)
one_put bar before accepted site v answer answer' t t' (refused_barred within b e a l) (refused_unfit out a' l') = absurd (out within)
one_put bar before accepted site v answer answer' t t' (refused_barred within b e a l) (refused_barred within' b' e' a' l') =
    let same : b ≡ b' = some_bar b b' (sym e ∙ e') in (a ∙ ap (λ (x : Bar). Err (Barring x)) same ∙ sym a', l ∙ sym l')
  where
    some_bar : (x y : Bar) → ◌≡◌ {A = Option Bar} (Some x) (Some y) → x ≡ y
    some_bar x y p = cc
one_put bar before accepted site v answer answer' t t' (refused_barred within b e a l) (put_accepted within' e' a' l') = absurd (bar_or_none b (sym e ∙ e'))
one_put bar before accepted site v answer answer' t t' (put_accepted within e a l) (refused_unfit out a' l') = absurd (out within)
one_put bar before accepted site v answer answer' t t' (put_accepted within e a l) (refused_barred within' b e' a' l') = absurd (bar_or_none b (sym e' ∙ e))
one_put bar before accepted site v answer answer' t t' (put_accepted within e a l) (put_accepted within' e' a' l') = (a ∙ sym a', l ∙ sym l')

-- a refused put leaves the state as it was
pub refused_left : {X : Type 0} (bar : Option Bar) (before accepted : X) (site : ℕ) (v : Version) (e : PutRefusal) (t : X)
    → PutLeaves bar before accepted site v (Err e) t → t ≡ before
refused_left bar before accepted site v e t (refused_unfit out a l) = l
refused_left bar before accepted site v e t (refused_barred within b f a l) = l
refused_left bar before accepted site v e t (put_accepted within f a l) = absurd (ok_or_err e a)
