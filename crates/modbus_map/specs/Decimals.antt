-- Numbers in decimal, and their texts.
use Rattle.std.specs.Prelude.{ℕ, zero, suc, ◌+◌, ◌-◌, ◌*◌, ◌/◌, ◌%◌, ◌^◌, ◌==◌, ◌&&◌, nat_le, Bool, true, false, List, [], ◌∷◌, ◌++◌, fold, length, decimal, ℤ, pos, neg_ℤ, unsigned_abs, Result, Ok, Err, codes, drop, nat_eq, if◌then◌else◌}
use Rattle.std.specs.Fmt.{sign_text}
use Rattle.std.specs.Int.{is_negative}
use Rattle.std.specs.List.{before_first, after_first, starts_with}
use Rattle.modbus_map.specs.declared.decimal.Decimal.{Decimal}
use Rattle.modbus_map.specs.declared.decimal.DecimalError.{DecimalError}

-- an ASCII digit
abbrev pub is_digit : ℕ → Bool
is_digit byte = nat_le 48 byte && nat_le byte 57

-- every byte is one
abbrev pub are_digits : List ℕ → Bool
are_digits text = fold (λ all byte. all && is_digit byte) true text

-- the number that digits show in decimal, behind those of another number
abbrev pub number_after : ℕ → List ℕ → ℕ
number_after start text = fold (λ value byte. value * 10 + (byte - 48)) start text

-- what stands before the first point of a text, and behind it
abbrev pub whole_part : List ℕ → List ℕ
whole_part text = before_first (λ byte. byte == 46) text

abbrev pub fraction_part : List ℕ → List ℕ
fraction_part text = after_first (λ byte. byte == 46) text

-- digits with at most one point among them: some, no more than 38, and no more than 18 behind the point
abbrev pub is_decimal : List ℕ → List ℕ → Bool
is_decimal whole fraction =
    are_digits whole && are_digits fraction && nat_le 1 (length whole + length fraction)
    && nat_le (length whole + length fraction) 38 && nat_le (length fraction) 18

-- a size with its sign
abbrev pub with_sign : Bool → ℕ → ℤ
with_sign true size = neg_ℤ (pos size)
with_sign false size = pos size

-- the number that those digits show, whose places are the digits behind the point
abbrev pub number_of : Bool → List ℕ → List ℕ → Result Decimal DecimalError
number_of negative whole fraction =
    if is_decimal whole fraction
    then Ok (record { units = with_sign negative (number_after (number_after 0 whole) fraction); places = length fraction })
    else Err (record {})

-- the number that a text shows: a minus or none, and its digits
abbrev pub number_in : List ℕ → Result Decimal DecimalError
number_in text =
    if starts_with nat_eq text (codes "-") then number_of true (whole_part (drop 1 text)) (fraction_part (drop 1 text))
    else number_of false (whole_part text) (fraction_part text)

-- the digit of a number before which so many others stand, the least significant first
abbrev pub digit_at : ℕ → ℕ → ℕ
digit_at place n = n / 10 ^ place % 10

-- so many digits of a number, its last ones, as ASCII
abbrev pub last_digits : ℕ → ℕ → List ℕ
last_digits zero n = []
last_digits (suc place) n = (48 + digit_at place n) ∷ last_digits place n

-- a point, and so many digits; nothing for none
abbrev pub fraction_text : ℕ → ℕ → List ℕ
fraction_text zero n = []
fraction_text (suc place) n = 46 ∷ last_digits (suc place) n

-- the text of a number: a minus for one below 0, what stands before the point, and just its places behind it
abbrev pub text_of : Decimal → List ℕ
text_of number =
    sign_text (is_negative number.units)
    ++ (decimal (unsigned_abs number.units / 10 ^ number.places) ++ fraction_text number.places (unsigned_abs number.units))
