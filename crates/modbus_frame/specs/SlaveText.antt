-- How the address of a slave is shown and read. The standards give no text form; this is the crate's own.
use Rattle.std.specs.Prelude.{◌≡◌, ℕ, ◌<◌, ◌/◌, ◌%◌, true, [], ◌∷◌, List, ◌++◌, codes, Result, MatchResult, ◌⊎◌}
use Rattle.std.specs.Fmt.{decimal, digit_glyph}
use Rattle.std.specs.Str.Parse.{IsNumeral, digits_value, without_leading_plus}

-- a byte in two upper-case hexadecimal digits
abbrev pub two_hex_digits : ℕ → List ℕ
two_hex_digits n = digit_glyph true (n / 16) ∷ digit_glyph true (n % 16) ∷ []

-- the number in decimal, and in two hexadecimal digits: `123 (0x7B)`
abbrev pub slave_text : ℕ → List ℕ
slave_text n = decimal n ++ codes " (0x" ++ two_hex_digits n ++ codes ")"

-- the text is an optional plus and one or more digits of the base, of either case, and n below 256 is their value
abbrev pub IsByteText : ℕ → List ℕ → ℕ → Type 0
IsByteText base text n = IsNumeral base (without_leading_plus text) × (digits_value base (without_leading_plus text) ≡ n) × (n < 256)

-- the text shows the number in decimal, or in hexadecimal after `0x`
abbrev pub IsSlaveText : List ℕ → ℕ → Type 0
IsSlaveText text n = IsByteText 10 text n ⊎ ((digits : List ℕ) × (text ≡ codes "0x" ++ digits) × IsByteText 16 digits n)

-- the result is the slave whose number the text shows, and an error where the text shows no number
abbrev pub ParsesSlave : {S E : Type 0} → (S → ℕ) → List ℕ → Result S E → Type 0
ParsesSlave number text r = MatchResult r (λ slave. IsSlaveText text (number slave)) (λ _. (n : ℕ) → IsSlaveText text n → ⊥)
