-- The laws of rows: all that other proofs know of how a row is laid out.
use Rattle.std.specs.Prelude.{◌≡◌, ℕ, ◌<◌, ◌≤◌, max, List, length, take, slice_index_or}
use Rattle.std.proofs.Common.{sym, ap, ◌∙◌, zero-add, arith}
use Rattle.std.proofs.lemmas.List.FromFn.{get_or-map-range_with_len, length-map-range_with_len, fill_by_all}
use Rattle.std.proofs.lemmas.List.{get_or_past, get_or-take, length-take}
use Rattle.stamps.specs.Numbers.{keys}
use Rattle.stamps.specs.declared.stamp.Stamp.{Stamp}
use Rattle.versions.specs.Joins.{JoinLaws}
use Rattle.versions.specs.Rows.{stamp, ProperStamp, ProperRow, stamp_at, row_of, zeros, Covers, joined_stamps, joined_rows}
use Rattle.versions.specs.declared.row.Row.{Row}

-- reading the array of a row
pub stamp_read : (r : Row) (k : ℕ) → k < keys → stamp_at r k ≡ (slice_index_or r.stamps k (stamp 0)).number
unfolding stamp_at
stamp_read r k h = ap (λ (s : Stamp). s.number) (get_or-take keys r.stamps k (stamp 0) h)

pub stamp_past : (r : Row) (k : ℕ) → keys ≤ k → stamp_at r k ≡ 0
unfolding stamp_at
stamp_past r k h =
    let short : length (take keys r.stamps) ≤ k = omega (arith, length-take keys r.stamps) in
    ap (λ (s : Stamp). s.number) (get_or_past (take keys r.stamps) k (stamp 0) short)

-- an array of the right length, read place by place, is the row of what was read
pub row_built : (xs : List Stamp) (f : ℕ → ℕ) → length xs ≡ keys → ((k : ℕ) → k < keys → (slice_index_or xs k (stamp 0)).number ≡ f k) → ◌≡◌ {A = Row} (record { stamps = xs }) (row_of f)
unfolding row_of
row_built xs f long reads i = record { stamps = fill_by_all _ xs keys (stamp 0) long (λ k h. ap stamp (reads k h)) i }

pub row_length : (f : ℕ → ℕ) → length (row_of f).stamps ≡ keys
unfolding row_of
row_length f = length-map-range_with_len (λ k. stamp (f k)) 0 keys

pub stamp_at_row : (f : ℕ → ℕ) (k : ℕ) → k < keys → stamp_at (row_of f) k ≡ f k
unfolding row_of
stamp_at_row f k h = stamp_read (row_of f) k h ∙ ap (λ (s : Stamp). s.number) (get_or-map-range_with_len (λ j. stamp (f j)) 0 keys k k (stamp 0) h (zero-add k))

pub row_same : (f g : ℕ → ℕ) → ((k : ℕ) → k < keys → f k ≡ g k) → row_of f ≡ row_of g
row_same f g same = row_built (row_of f).stamps g (row_length f) (λ k h. sym (stamp_read (row_of f) k h) ∙ stamp_at_row f k h ∙ same k h)

-- covering is a matter of the keys alone
pub covers_by_keys : (a b : Row) → ((k : ℕ) → k < keys → stamp_at b k ≤ stamp_at a k) → Covers a b
covers_by_keys a b within k = grind (arith, within k, stamp_past b k)

pub covers_trans : (a b c : Row) → Covers a b → Covers b c → Covers a c
covers_trans a b c h g k = omega (arith, h k, g k)

-- a proper row is the row of its stamps
pub row_itself : (r : Row) (f : ℕ → ℕ) → length r.stamps ≡ keys → ((k : ℕ) → k < keys → stamp_at r k ≡ f k) → row_of f ≡ r
row_itself r f long same = sym (row_built r.stamps f long (λ k h. sym (stamp_read r k h) ∙ same k h))

-- the join at a key, in range or not
pub stamp_at_join : (a b : Row) (k : ℕ) → stamp_at (joined_rows a b) k ≡ max (stamp_at a k) (stamp_at b k)
stamp_at_join a b k = grind (arith, stamp_at_row (λ j. max (stamp_at a j) (stamp_at b j)) k, stamp_past a k, stamp_past b k, stamp_past (joined_rows a b) k)

pub stamp_at_zeros : (k : ℕ) → stamp_at zeros k ≡ 0
stamp_at_zeros k = grind (arith, stamp_at_row (λ j. 0) k, stamp_past zeros k)

pub row_laws : JoinLaws ProperRow zeros joined_rows
row_laws = record {
  proper_neutral = row_length _;
  proper_join = λ x y p q. row_length _;
  neutral_left = λ x p. row_itself x _ p (λ k h. omega (arith, stamp_at_zeros k));
  neutral_right = λ x p. row_itself x _ p (λ k h. omega (arith, stamp_at_zeros k));
  brackets = λ x y z. row_same _ _ (λ k h. omega (arith, stamp_at_join x y k, stamp_at_join y z k));
  order = λ x y. row_same _ _ (λ k h. omega arith);
  repeats = λ x p. row_itself x _ p (λ k h. omega arith);
}

pub stamp_laws : JoinLaws ProperStamp (stamp 0) joined_stamps
stamp_laws = record {
  proper_neutral = omega arith;
  proper_join = λ x y p q. omega arith;
  neutral_left = λ x p. ap stamp (omega arith);
  neutral_right = λ x p. ap stamp (omega arith);
  brackets = λ x y z. ap stamp (omega arith);
  order = λ x y. ap stamp (omega arith);
  repeats = λ x p. ap stamp (omega arith);
}
