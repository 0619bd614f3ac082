-- A list that is changed place by place, as a loop changes it.
use Rattle.std.proofs.Common.{◌≡◌, ℕ, ◌+◌, ◌<◌, List, map, length, get_or, take, drop, set, arith}
use Rattle.std.proofs.lemmas.List.{drop_more, drop-set-lt, map_more, take_more_set}

module _ {X : Type 0} (xs ys : List X) (i : ℕ) (d y : X) (within : i < length xs) (within' : i < length ys) (rest : drop i ys ≡ drop i xs) where
  -- ys began as xs and was changed below i: changing it at i leaves the rest as it was
  pub rest_more : drop (i + 1) (set ys i y) ≡ drop (i + 1) xs
  rest_more =
      let past : drop (i + 1) (set ys i y) ≡ drop (i + 1) ys = drop-set-lt (i + 1) ys i y (omega arith) in
      cc (drop_more xs i d within, drop_more ys i d within')

  -- and one item more is what the change makes of it
  pub changed_more : (becomes : X → X) → take i ys ≡ map becomes (take i xs) → y ≡ becomes (get_or ys i d)
      → take (i + 1) (set ys i y) ≡ map becomes (take (i + 1) xs)
  changed_more becomes front new =
      cc (take_more_set ys i y within', map_more becomes xs i d within, drop_more xs i d within, drop_more ys i d within')
