-- The laws of stamps: all that other proofs know of the factor.
use Rattle.std.proofs.Common.{◌≡◌, ℕ, ◌+◌, ◌*◌, ◌^◌, ◌<◌, ◌≤◌, true, refl, arith}
use Rattle.std.proofs.lemmas.Bool.{and_parts, leb-true, le-leb, and_from}
use Rattle.stamps.specs.Numbers.{terminals, factor, counter_limit}
use Rattle.stamps.specs.Stamps.{stamp_of, counter_of, terminal_of, is_stamp, InStampRange}

pub stamp_number : (c t : ℕ) → stamp_of c t ≡ c * factor + t
unfolding stamp_of
stamp_number c t = refl

pub counter_of_stamp : (c t : ℕ) → t < terminals → counter_of (stamp_of c t) ≡ c
unfolding stamp_of counter_of
counter_of_stamp c t h = omega arith

pub terminal_of_stamp : (c t : ℕ) → t < terminals → terminal_of (stamp_of c t) ≡ t
unfolding stamp_of terminal_of
terminal_of_stamp c t h = omega arith

pub stamp_of_parts : (n : ℕ) → stamp_of (counter_of n) (terminal_of n) ≡ n
unfolding stamp_of counter_of terminal_of
stamp_of_parts n = omega arith

pub terminal_below : (n : ℕ) → terminal_of n < terminals
unfolding terminal_of
terminal_below n = omega arith

pub counter_none : counter_of 0 ≡ 0
unfolding counter_of
counter_none = refl

-- one more than the counter of a stamp of 32 bits has 32 bits
pub counter_fits : (n : ℕ) → n < 2 ^ 32 → counter_of n + 1 < 2 ^ 32
unfolding counter_of
counter_fits n h = omega arith

-- a higher stamp has no lower counter
pub counter_rises : (m n : ℕ) → m ≤ n → counter_of m ≤ counter_of n
unfolding counter_of
counter_rises m n h = omega arith

-- a higher counter makes a higher stamp, whatever the terminals
pub counter_decides : (m n : ℕ) → counter_of m < counter_of n → m < n
unfolding counter_of
counter_decides m n h = omega arith

pub stamp_counter : (n : ℕ) → is_stamp n ≡ true → (1 ≤ counter_of n) × (counter_of n ≤ counter_limit)
stamp_counter n h = let p = and_parts _ _ h in (leb-true _ _ p.0, leb-true _ _ p.1)

pub stamp_from_parts : (c t : ℕ) → InStampRange c t → is_stamp (stamp_of c t) ≡ true
stamp_from_parts c t h =
    let e : counter_of (stamp_of c t) ≡ c = counter_of_stamp c t h.2 in
    let low : 1 ≤ counter_of (stamp_of c t) = omega (arith, e, h.0) in
    let high : counter_of (stamp_of c t) ≤ counter_limit = omega (arith, e, h.1) in
    and_from _ _ (le-leb _ _ low) (le-leb _ _ high)

-- the parts of a stamp, in range, and the number that they make
pub parts_of_stamp : (n : ℕ) → is_stamp n ≡ true → InStampRange (counter_of n) (terminal_of n) × (n ≡ counter_of n * factor + terminal_of n)
unfolding counter_of terminal_of
parts_of_stamp n h = let p = stamp_counter n h in ((p.0, p.1, omega arith), omega arith)
