-- A number as the set of its bits.
use Rattle.std.proofs.Common.{◌≡◌, ℕ, zero, suc, Result, Ok, Err, MatchResult, MatchOption, ◌+◌, ◌*◌, ◌/◌, ◌%◌, ◌^◌, ◌-◌, ◌<◌, ◌≤◌, Bool, true, false, not, cond, ⊎_elim, w32, ◌&&◌, ◌||◌, eqb, sym, refl, ap, ◌∙◌, ap₂, lt_of_lt_of_le, pow-suc, one-add, arith, pow_mono}
use mathlib.Core.Bool.{xor}
use native.Mathlib.Nat.{div-eq_of_lt}
use lib.Bits.{bit_and, bit_or, bit_xor}
use lib.Count.{ones, ones_cat, count_trailing_zeros, under}
use lib.Dec.{eqb-zero-suc, eqb-suc-zero, eqb-suc-suc}
use Rattle.std.specs.Int.{bit_at}
use Rattle.std.specs.Int.Count.{trailing_of_zero}
use Rattle.std.specs.Result.{result_ok}
use Rattle.std.proofs.lemmas.Bool.{cases_lt}
use Rattle.std.proofs.lemmas.Nat.Bits.{bit_at_not, bit_at-lt}
use Rattle.std.proofs.lemmas.Nat.{and_shr, and_mod, or_shr, or_mod, xor_shr, xor_mod, pow_pos, shr-shr, mod-pow-add, mod_below, one_shl}
use Rattle.stamps.specs.Keys.{count_below}
use Rattle.stamps.specs.declared.refusal.Refusal.TheVariants.{OutOfRange}
use Rattle.stamps.specs.declared.refusal.Refusal.{Refusal}

abbrev pub bit : ℕ → ℕ → Bool
bit x k = eqb (x / 2 ^ k % 2) 1

-- the lowest bit is the last digit, and the others are those of the half
bit_zero : (x d : ℕ) → x % 2 ≡ d → bit x 0 ≡ eqb d 1
bit_zero x d e = let digit : x / 1 % 2 ≡ d = omega arith in ap (λ (y : ℕ). eqb y 1) digit

bit_suc : (x k : ℕ) → bit x (suc k) ≡ bit (x / 2) k
bit_suc x k = rw (← one-add k, ← shr-shr x 1 k)

-- a number below 2 ^ n has no bit from n on
pub bit_above : (x n k : ℕ) → x < 2 ^ n → n ≤ k → bit x k ≡ false
bit_above x n k l h = ap (λ (y : ℕ). eqb (y % 2) 1) (div-eq_of_lt (lt_of_lt_of_le l (pow_mono h)))

-- 2 ^ j has the bit j and no other
pub bit_power : (j k : ℕ) → bit (2 ^ j) k ≡ eqb k j
bit_power zero zero = refl
bit_power zero (suc k) = bit_above 1 1 (suc k) (omega arith) (omega arith) ∙ sym (eqb-suc-zero k)
bit_power (suc j) zero = bit_zero (2 ^ suc j) 0 (omega (arith, pow-suc 2 j)) ∙ sym (eqb-zero-suc j)
bit_power (suc j) (suc k) =
    let half : 2 ^ suc j / 2 ≡ 2 ^ j = omega (arith, pow-suc 2 j) in
    bit_suc (2 ^ suc j) k ∙ ap (λ (x : ℕ). bit x k) half ∙ bit_power j k ∙ sym (eqb-suc-suc k j)

-- the same of `1 << j` at a type of w bits
pub bit_shl : (w j k : ℕ) → j < w → bit (1 * 2 ^ j % 2 ^ w) k ≡ eqb k j
bit_shl w j k l = ap (λ (x : ℕ). bit x k) (one_shl j w l) ∙ bit_power j k

-- an operation that works on each digit apart, as the test t does
module _ (op : ℕ → ℕ → ℕ) (t : Bool → Bool → Bool)
    (op_shr : (a b k : ℕ) → op a b / 2 ^ k ≡ op (a / 2 ^ k) (b / 2 ^ k)) (op_mod : (a b k : ℕ) → op a b % 2 ^ k ≡ op (a % 2 ^ k) (b % 2 ^ k))
    (none : eqb (op 0 0) 1 ≡ t false false) (right : eqb (op 0 1) 1 ≡ t false true)
    (left : eqb (op 1 0) 1 ≡ t true false) (both : eqb (op 1 1) 1 ≡ t true true) where
  digit_op : (x y : ℕ) → x < 2 → y < 2 → eqb (op x y) 1 ≡ t (eqb x 1) (eqb y 1)
  digit_op zero zero l m = none
  digit_op zero (suc zero) l m = right
  digit_op (suc zero) zero l m = left
  digit_op (suc zero) (suc zero) l m = both
  digit_op zero (suc (suc y)) l m = absurd (omega arith)
  digit_op (suc zero) (suc (suc y)) l m = absurd (omega arith)
  digit_op (suc (suc x)) y l m = absurd (omega arith)

  bit_op : (a b k : ℕ) → bit (op a b) k ≡ t (bit a k) (bit b k)
  bit_op a b k =
      ap (λ (x : ℕ). eqb (x % 2) 1) (op_shr a b k) ∙ ap (λ (x : ℕ). eqb x 1) (op_mod (a / 2 ^ k) (b / 2 ^ k) 1)
      ∙ digit_op (a / 2 ^ k % 2) (b / 2 ^ k % 2) (omega arith) (omega arith)

pub bit_of_and : (a b k : ℕ) → bit (bit_and a b) k ≡ (bit a k && bit b k)
bit_of_and = bit_op bit_and ◌&&◌ and_shr and_mod refl refl refl refl

pub bit_of_or : (a b k : ℕ) → bit (bit_or a b) k ≡ (bit a k || bit b k)
bit_of_or = bit_op bit_or ◌||◌ or_shr or_mod refl refl refl refl

pub bit_of_xor : (a b k : ℕ) → bit (bit_xor a b) k ≡ xor (bit a k) (bit b k)
unfolding xor
bit_of_xor = bit_op bit_xor xor xor_shr xor_mod refl refl refl refl

ones_digit : (d : ℕ) → d < 2 → ones d ≡ cond (eqb d 1) 1 0
unfolding ones
ones_digit zero l = refl
ones_digit (suc zero) l = refl
ones_digit (suc (suc d)) l = absurd (omega arith)

-- the lowest n digits of x have as many ones as x has bits below n
pub ones_count : (n x : ℕ) → ones (x % 2 ^ n) ≡ count_below n (bit x)
unfolding count_below ones
ones_count zero x = let none : x % 1 ≡ 0 = omega arith in ap ones none
ones_count (suc n) x =
    ap (λ (y : ℕ). ones (x % 2 ^ y)) (sym (one-add n)) ∙ ap ones (mod-pow-add x 1 n)
    ∙ ones_cat n (x / 2 ^ n % 2) (x % 2 ^ n) (mod_below x (2 ^ n) (pow_pos n))
    ∙ ap₂ ◌+◌ (ones_digit (x / 2 ^ n % 2) (omega arith)) (ones_count n x)

-- t is the lowest bit that x has, and it is below n
abbrev pub IsLowest : ℕ → ℕ → ℕ → Type 0
IsLowest n x t = (t < n) × (bit x t ≡ true) × ((k : ℕ) → k < t → bit x k ≡ false)

-- from the lowest bit of the half of x
lowest_under : (n x t d : ℕ) → 0 < x → x % 2 ≡ d → (0 < x / 2 → IsLowest n (x / 2) t) → IsLowest (suc n) x (under d t)
lowest_under n x t zero p e h = (omega (arith, w.0), bit_suc x t ∙ w.1, lower)
  where
    w : IsLowest n (x / 2) t
    w = h (omega arith)

    lower : (k : ℕ) → k < suc t → bit x k ≡ false
    lower zero l = bit_zero x 0 e
    lower (suc k) l = bit_suc x k ∙ w.2 k (omega arith)
lowest_under n x t (suc d) p e h = (omega arith, bit_zero x 1 (omega arith), λ k l. absurd (omega arith))

pub trailing_lowest : (n x : ℕ) → 0 < x → x < 2 ^ n → IsLowest n x (count_trailing_zeros n x)
unfolding count_trailing_zeros
trailing_lowest zero x p l = absurd (omega arith)
trailing_lowest (suc n) x p l =
    lowest_under n x (count_trailing_zeros n (x / 2)) (x % 2) p refl (λ q. trailing_lowest n (x / 2) q (omega (arith, pow-suc 2 n)))

-- `!m` at 32 bits has the bits below 32 that m has not
bit_not_below : (m k : ℕ) → m < 2 ^ 32 → k < 32 → bit (2 ^ 32 - 1 - m) k ≡ not (bit m k)
bit_not_below m k l h = ap (λ (d : ℕ). eqb d 1) (bit_at_not w32 m k l h) ∙ turned (bit_at m k) (bit_at-lt m k)
  where
    turned : (d : ℕ) → d < 2 → eqb (1 - d) 1 ≡ not (eqb d 1)
    turned zero l = refl
    turned (suc zero) l = refl
    turned (suc (suc d)) l = absurd (omega arith)

-- striking the bit j out of a number of 32 bits
pub bit_strike : (a j k : ℕ) → a < 2 ^ 32 → j < 32 → bit (bit_and a (2 ^ 32 - 1 - 1 * 2 ^ j % 2 ^ 32)) k ≡ (not (eqb k j) && bit a k)
bit_strike a j k l m = bit_of_and a (2 ^ 32 - 1 - 1 * 2 ^ j % 2 ^ 32) k ∙ ⊎_elim within above (cases_lt k 32)
  where
    turn : (x y : Bool) → (x && y) ≡ (y && x)
    turn true true = refl
    turn true false = refl
    turn false true = refl
    turn false false = refl

    within : k < 32 → (bit a k && bit (2 ^ 32 - 1 - 1 * 2 ^ j % 2 ^ 32) k) ≡ (not (eqb k j) && bit a k)
    within h =
        ap (λ (b : Bool). bit a k && b) (bit_not_below (1 * 2 ^ j % 2 ^ 32) k (omega arith) h ∙ ap not (bit_shl 32 j k m))
        ∙ turn (bit a k) (not (eqb k j))

    above : 32 ≤ k → (bit a k && bit (2 ^ 32 - 1 - 1 * 2 ^ j % 2 ^ 32) k) ≡ (not (eqb k j) && bit a k)
    above h =
        ap (λ (b : Bool). b && bit (2 ^ 32 - 1 - 1 * 2 ^ j % 2 ^ 32) k) (bit_above a 32 k l h) ∙ turn false (not (eqb k j))
        ∙ ap (λ (b : Bool). not (eqb k j) && b) (sym (bit_above a 32 k l h))

-- the number of trailing zeros, where it is below 32, is the lowest bit
pub lowest_of :
    (x : ℕ) (r : Result ℕ Refusal) → x < 2 ^ 32
    → MatchResult r (λ t. (count_trailing_zeros 32 x < 32) × (t ≡ count_trailing_zeros 32 x)) (λ e. (e ≡ OutOfRange) × (32 ≤ count_trailing_zeros 32 x))
    → MatchOption (result_ok r) ((k : ℕ) → bit x k ≡ false) (λ t. IsLowest 32 x t)
lowest_of x (Ok t) l h = rw h.1 (⊎_elim (λ p. trailing_lowest 32 x p l) (λ p. absurd (zeros p)) (cases_lt 0 x))
  where
    zeros : x ≤ 0 → ⊥
    zeros p = let none : x ≡ 0 = omega arith in let all = ap (count_trailing_zeros 32) none ∙ trailing_of_zero 32 in omega (arith, h.0, all)
lowest_of x (Err e) l h = λ k. ⊎_elim (λ p. absurd (some p)) (λ p. bit_above x 0 k (omega arith) (omega arith)) (cases_lt 0 x)
  where
    some : 0 < x → ⊥
    some p = omega (arith, h.1, (trailing_lowest 32 x p l).0)
