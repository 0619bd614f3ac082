-- Tails: lists that hold versions, added to at the end and shortened at the front.
use Rattle.std.specs.Prelude.{◌≡◌, ℕ, zero, suc, true, List, [], ◌∷◌, ◌++◌, take, drop, slice_set, refl}
use Rattle.std.proofs.Common.{inl, inr, sym, ap, subst, ◌∙◌}
use Rattle.std.proofs.lemmas.List.{take-append-drop}
use Rattle.std.proofs.lemmas.List.Folds.{list_all-append}
use Rattle.std.proofs.lemmas.Bool.{and_parts, and_from}
use Rattle.versions.specs.Joins.{In}
use Rattle.versions.specs.Versions.{is_version}
use Rattle.versions.specs.declared.version.Version.{Version}
use Rattle.store.proofs.Keeping.{in_left, in_right}
use Rattle.shared_log.specs.Log.{are_versions}

-- each member of such a list is a version
pub versions_in : (vs : List Version) → are_versions vs ≡ true → (v : Version) → In v vs → is_version v ≡ true
versions_in [] all v i = absurd i
versions_in (w ∷ vs) all v (inl e) = ap is_version e ∙ (and_parts (is_version w) (are_versions vs) all).0
versions_in (w ∷ vs) all v (inr i) = versions_in vs (and_parts (is_version w) (are_versions vs) all).1 v i

-- and a list each member of which is a version is such a list
pub versions_from : (vs : List Version) → ((v : Version) → In v vs → is_version v ≡ true) → are_versions vs ≡ true
versions_from [] all = refl
versions_from (w ∷ vs) all = and_from (is_version w) (are_versions vs) (all w (inl refl)) (versions_from vs (λ v i. all v (inr i)))

-- writing a version into it leaves versions
pub versions_set : (vs : List Version) (n i : ℕ) (v : Version) → are_versions (take n vs) ≡ true → is_version v ≡ true
    → are_versions (take n (slice_set vs i v)) ≡ true
versions_set [] n i v all is = all
versions_set (w ∷ vs) zero i v all is = refl
versions_set (w ∷ vs) (suc n) zero v all is = and_from (is_version v) (are_versions (take n vs)) is (and_parts (is_version w) (are_versions (take n vs)) all).1
versions_set (w ∷ vs) (suc n) (suc i) v all is =
    let p = and_parts (is_version w) (are_versions (take n vs)) all in
    and_from (is_version w) (are_versions (take n (slice_set vs i v))) p.0 (versions_set vs n i v p.1 is)

-- with one version more it holds versions
pub versions_push : (vs : List Version) (v : Version) → are_versions vs ≡ true → is_version v ≡ true → are_versions (vs ++ v ∷ []) ≡ true
versions_push vs v all is =
    list_all-append is_version vs (v ∷ []) ∙ and_from (are_versions vs) (are_versions (v ∷ [])) all (and_from (is_version v) true is refl)

-- and both parts of it do
pub versions_parts : (n : ℕ) (vs : List Version) → are_versions vs ≡ true → (are_versions (take n vs) ≡ true) × (are_versions (drop n vs) ≡ true)
versions_parts n vs all =
    and_parts (are_versions (take n vs)) (are_versions (drop n vs))
    (sym (list_all-append is_version (take n vs) (drop n vs)) ∙ ap are_versions (take-append-drop n vs) ∙ all)

-- members of a part are members of the whole
pub in_take : (v : Version) (n : ℕ) (vs : List Version) → In v (take n vs) → In v vs
in_take v n vs i = subst (In v) (take-append-drop n vs) (in_left v (take n vs) (drop n vs) i)

pub in_drop : (v : Version) (n : ℕ) (vs : List Version) → In v (drop n vs) → In v vs
in_drop v n vs i = subst (In v) (take-append-drop n vs) (in_right v (take n vs) (drop n vs) i)
