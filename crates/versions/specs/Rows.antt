-- Rows: one stamp for each key.
use Rattle.std.specs.Prelude.{◌≡◌, ℕ, ◌^◌, ◌<◌, ◌≤◌, max, map, length, take, slice_index_or}
use Rattle.std.specs.List.{range_with_len}
use Rattle.stamps.specs.Numbers.{keys}
use Rattle.stamps.specs.declared.stamp.Stamp.{Stamp}
use Rattle.versions.specs.declared.row.Row.{Row}

-- the stamp with a number
abbrev pub stamp : ℕ → Stamp
stamp n = record { number = n }

-- a stamp that code can make has a number of 32 bits
abbrev pub ProperStamp : Stamp → Type 0
ProperStamp s = s.number < 2 ^ 32

-- a row that code can make has one place for each key
abbrev pub ProperRow : Row → Type 0
ProperRow r = length r.stamps ≡ keys

-- the number of the stamp at a key; 0 where there is none
unfoldable pub stamp_at : Row → ℕ → ℕ
stamp_at r k = (slice_index_or (take keys r.stamps) k (stamp 0)).number

-- the row that has the stamp f k at each key k
unfoldable pub row_of : (ℕ → ℕ) → Row
row_of f = record { stamps = map (λ k. stamp (f k)) (range_with_len 0 keys) }

-- the row of zeros
abbrev pub zeros : Row
zeros = row_of (λ k. 0)

-- a row covers another when its stamp is at least the other's at every key
abbrev pub Covers : Row → Row → Type 0
Covers a b = (k : ℕ) → stamp_at b k ≤ stamp_at a k

-- two stamps are joined to the higher one
abbrev pub joined_stamps : Stamp → Stamp → Stamp
joined_stamps a b = stamp (max a.number b.number)

-- two rows are joined key by key, the higher stamp at each
abbrev pub joined_rows : Row → Row → Row
joined_rows a b = row_of (λ k. max (stamp_at a k) (stamp_at b k))
