-- The four values of a version.
use Rattle.std.specs.Prelude.{ℕ, ◌-◌, ◌/◌, ◌%◌, ◌^◌, Bool, true, false, List, [], ◌++◌, codes, nat_le}
use Rattle.std.specs.Fmt.{decimal, padded_integral, format_spec}
use Rattle.stamps.specs.Numbers.{amount_limit, card_limit}
use Rattle.stamps.specs.declared.value.Value.TheVariants.{Amount, Free, Barred, Replaced}
use Rattle.stamps.specs.declared.value.Value.{Value}

-- an amount and a replacing card are in range up to their limits; the other values always are
abbrev pub in_range : Value → Bool
in_range (Amount cents) = nat_le cents amount_limit
in_range Free = true
in_range Barred = true
in_range (Replaced card) = nat_le card card_limit

-- the letter of a value, as its ASCII code: A, F, X, N
abbrev pub letter_of : Value → ℕ
letter_of (Amount cents) = 65
letter_of Free = 70
letter_of Barred = 88
letter_of (Replaced card) = 78

-- two digits of a number below a hundred, with a 0 before a single one
abbrev pub two_digits : ℕ → List ℕ
two_digits n = padded_integral (format_spec 32 0 4 2 (2 ^ 64 - 1)) false [] (decimal n)

-- the text of a value: an amount in whole units and hundredths
abbrev pub text_of : Value → List ℕ
text_of (Amount cents) = codes "balance " ++ (decimal (cents / 100) ++ (codes "." ++ two_digits (cents % 100)))
text_of Free = codes "card free"
text_of Barred = codes "card barred"
text_of (Replaced card) = codes "replaced by card " ++ decimal card
