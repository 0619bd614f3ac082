-- Joining lists of what joins lawfully.
use Rattle.std.specs.Prelude.{◌≡◌, ◌⊎◌, List, [], ◌∷◌}
use Rattle.std.specs.List.{fold}
use Rattle.versions.specs.Rows.{stamp, ProperStamp, ProperRow, zeros, joined_stamps, joined_rows}

-- the laws of a join, for the values that are proper (those that code can make)
pub record JoinLaws {X : Type 0} (proper : X → Type 0) (neutral : X) (op : X → X → X) : Type 0 where
  -- the neutral element is proper, and so is what proper values join to
  pub proper_neutral : proper neutral
  pub proper_join : (x y : X) → proper x → proper y → proper (op x y)
  -- the neutral element alters nothing
  pub neutral_left : (x : X) → proper x → op neutral x ≡ x
  pub neutral_right : (x : X) → proper x → op x neutral ≡ x
  -- brackets make no difference
  pub brackets : (x y z : X) → op (op x y) z ≡ op x (op y z)
  -- order makes no difference
  pub order : (x y : X) → op x y ≡ op y x
  -- repeats make no difference
  pub repeats : (x : X) → proper x → op x x ≡ x

-- what a list joins to from a value on, taken first to last
abbrev pub joined_from : {X : Type 0} → (X → X → X) → X → List X → X
joined_from op sum xs = fold op sum xs

-- what a list joins to, taken first to last; the neutral element for the empty list
abbrev pub joined : {X : Type 0} → X → (X → X → X) → List X → X
joined neutral op xs = joined_from op neutral xs

-- a value is a member of a list
abbrev pub In : {X : Type 0} → X → List X → Type 0
In x [] = ⊥
In x (y ∷ ys) = (x ≡ y) ⊎ In x ys

-- the two lists have the same members, in whatever order and however often
abbrev pub SameMembers : {X : Type 0} → List X → List X → Type 0
SameMembers {X} xs ys = ((x : X) → In x xs → In x ys) × ((x : X) → In x ys → In x xs)

-- every member of a list is proper
abbrev pub AllProper : {X : Type 0} → (X → Type 0) → List X → Type 0
AllProper {X} proper xs = (x : X) → In x xs → proper x

-- order and repeats make no difference: lists with the same members join to the same
abbrev pub OrderAndRepeatsMakeNoDifference : {X : Type 0} → (X → Type 0) → X → (X → X → X) → Type 0
OrderAndRepeatsMakeNoDifference {X} proper neutral op =
    (xs ys : List X) → AllProper proper xs → AllProper proper ys → SameMembers xs ys → joined neutral op xs ≡ joined neutral op ys

-- what this says of stamps and rows, and what their empty lists join to
pub record JoinsOfStampsAndRows : Type 0 where
  pub stamps_in_any_order : OrderAndRepeatsMakeNoDifference ProperStamp (stamp 0) joined_stamps
  pub rows_in_any_order : OrderAndRepeatsMakeNoDifference ProperRow zeros joined_rows
  pub no_stamps_join_to_0 : joined (stamp 0) joined_stamps [] ≡ stamp 0
  pub no_rows_join_to_zeros : joined zeros joined_rows [] ≡ zeros
