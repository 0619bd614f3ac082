-- Joining lists: what the laws give.
use Rattle.std.proofs.Common.{◌≡◌, List, [], ◌∷◌, sym, refl, ap, ◌∙◌, subst, inl, inr}
use Rattle.versions.specs.Joins.{JoinLaws, joined_from, joined, In, AllProper, OrderAndRepeatsMakeNoDifference}

module _ {X : Type 0} {proper : X → Type 0} {neutral : X} {op : X → X → X} (laws : JoinLaws proper neutral op) where
  -- a value is below another when it alters nothing of it
  abbrev Below : X → X → Type 0
  Below x y = op x y ≡ y

  below_trans : (x y z : X) → Below x y → Below y z → Below x z
  below_trans x y z h g = ap (op x) (sym g) ∙ sym (laws.brackets x y z) ∙ ap (λ a. op a z) h ∙ g

  below_left : (x y : X) → proper x → Below x (op x y)
  below_left x y p = sym (laws.brackets x x y) ∙ ap (λ a. op a y) (laws.repeats x p)

  below_right : (x y : X) → proper y → Below y (op x y)
  below_right x y p = ap (op y) (laws.order x y) ∙ below_left y x p ∙ laws.order y x

  -- what is joined first is below the join
  from_start : (s : X) (xs : List X) → proper s → AllProper proper xs → Below s (joined_from op s xs)
  from_start s [] p q = laws.repeats s p
  from_start s (x ∷ xs) p q =
      below_trans s (op s x) (joined_from op (op s x) xs) (below_left s x p)
      (from_start (op s x) xs (laws.proper_join s x p (q x (inl refl))) (λ y m. q y (inr m)))

  -- so is every member
  from_member : (s : X) (xs : List X) → proper s → AllProper proper xs → (y : X) → In y xs → Below y (joined_from op s xs)
  from_member s [] p q y m = absurd m
  from_member s (x ∷ xs) p q y (inl e) =
      let both : proper (op s x) = laws.proper_join s x p (q x (inl refl)) in
      subst (λ (z : X). Below z (joined_from op (op s x) xs)) (sym e)
      (below_trans x (op s x) (joined_from op (op s x) xs) (below_right s x (q x (inl refl))) (from_start (op s x) xs both (λ z m. q z (inr m))))
  from_member s (x ∷ xs) p q y (inr m) = from_member (op s x) xs (laws.proper_join s x p (q x (inl refl))) (λ z n. q z (inr n)) y m

  -- and the join is below whatever the start and all members are below
  from_least : (s : X) (xs : List X) (b : X) → Below s b → ((y : X) → In y xs → Below y b) → Below (joined_from op s xs) b
  from_least s [] b h g = h
  from_least s (x ∷ xs) b h g = from_least (op s x) xs b (laws.brackets s x b ∙ ap (op s) (g x (inl refl)) ∙ h) (λ y m. g y (inr m))

  pub joined_proper : (s : X) (xs : List X) → proper s → AllProper proper xs → proper (joined_from op s xs)
  joined_proper s [] p q = p
  joined_proper s (x ∷ xs) p q = joined_proper (op s x) xs (laws.proper_join s x p (q x (inl refl))) (λ y m. q y (inr m))

  -- so the join of a list is below that of another that has all its members
  below_join : (xs ys : List X) → AllProper proper ys → ((x : X) → In x xs → In x ys) → Below (joined neutral op xs) (joined neutral op ys)
  below_join xs ys q among =
      from_least neutral xs (joined neutral op ys) (laws.neutral_left _ (joined_proper neutral ys laws.proper_neutral q))
      (λ x m. from_member neutral ys laws.proper_neutral q x (among x m))

  pub order_and_repeats : OrderAndRepeatsMakeNoDifference proper neutral op
  order_and_repeats xs ys p q same = sym (below_join ys xs p same.1) ∙ laws.order _ _ ∙ below_join xs ys q same.0
