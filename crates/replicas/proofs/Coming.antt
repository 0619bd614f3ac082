-- Deliveries that come, one after another.
use Rattle.std.proofs.Common.{◌≡◌, ℕ, ◌+◌, ◌<◌, true, false, not, List, [], ◌∷◌, ◌++◌, map, length, get_or, take, filter, refl, sym, ap, inl, inr, ◌∙◌}
use Rattle.std.specs.List.{AllByRecursion}
use Rattle.std.proofs.lemmas.Bool.{or_parts, cond-true, cond-false, not_from_false}
use mathlib.Core.Path.{fun_ext}
use Rattle.std.proofs.lemmas.List.Elements.{filter_more}
use Rattle.versions.specs.Joins.{In}
use Rattle.store.specs.Registers.{Sites, came_at}
use Rattle.replicas.specs.Delivering.{fit_member}
use Rattle.replicas.specs.Pending.{any_come}
use Rattle.replicas.specs.Replicas.{Addressed, are_deliveries, delivered, has_come, lowered}
use Rattle.replicas.specs.declared.delivery.Delivery.{Delivery}

-- delivering two lists in a row
delivered_append : (t : Sites) (xs ys : List Delivery) → delivered t (xs ++ ys) ≡ delivered (delivered t xs) ys
delivered_append t [] ys = refl
delivered_append t (x ∷ xs) ys = delivered_append (came_at t x.site x.version) xs ys

-- delivering what has come of a list, one item further
pub deliver_more : (t u : Sites) (xs : List Delivery) (i : ℕ) (d : Delivery) → i < length xs
    → ((s k : ℕ) → u s k ≡ delivered t (filter has_come (take i xs)) s k)
    → delivered t (filter has_come (take (i + 1) xs)) ≡ delivered u (filter has_come (get_or xs i d ∷ []))
deliver_more t u xs i d h so_far =
    ap (delivered t) (filter_more has_come xs i d h)
    ∙ delivered_append t (filter has_come (take i xs)) (filter has_come (get_or xs i d ∷ []))
    ∙ ap (λ (v : Sites). delivered v (filter has_come (get_or xs i d ∷ []))) (sym (fun_ext (λ s. fun_ext (λ k. so_far s k))))

-- where none has come, none is delivered or removed
pub none_come : (xs : List Delivery) → any_come xs ≡ false → filter has_come xs ≡ []
none_come [] e = refl
none_come (x ∷ xs) e =
    let p = or_parts (has_come x) (any_come xs) e in
    cond-false (has_come x) (x ∷ filter has_come xs) (filter has_come xs) p.0 ∙ none_come xs p.1

pub none_removed : (xs : List Delivery) → any_come xs ≡ false → filter (λ d. not (has_come d)) xs ≡ xs
none_removed [] e = refl
none_removed (x ∷ xs) e =
    let p = or_parts (has_come x) (any_come xs) e in
    let stay = filter (λ d. not (has_come d)) xs in
    cond-true (not (has_come x)) (x ∷ stay) stay (not_from_false (has_come x) p.0) ∙ ap (λ (l : List Delivery). x ∷ l) (none_removed xs p.1)

-- deliveries are addressed, and lowering leaves where they go
pub all_addressed : (ds : List Delivery) → ((d : Delivery) → In d ds → Addressed d) → AllByRecursion Addressed ds
all_addressed [] f = tt
all_addressed (d ∷ ds) f = (f d (inl refl), all_addressed ds (λ x i. f x (inr i)))

pub are_addressed : (ds : List Delivery) → are_deliveries ds ≡ true → AllByRecursion Addressed ds
are_addressed ds e = all_addressed ds (λ d i. let f = fit_member ds d e i in (f.site, f.version))

pub lowered_addressed : (xs : List Delivery) → AllByRecursion Addressed xs → AllByRecursion Addressed (map lowered xs)
lowered_addressed [] a = tt
lowered_addressed (x ∷ xs) a = (a.0, lowered_addressed xs a.1)
