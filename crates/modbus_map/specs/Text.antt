-- The texts of values.
use Rattle.std.specs.Prelude.{◌≡◌, ℕ, ◌+◌, ◌/◌, ◌%◌, ◌^◌, ◌==◌, ◌&&◌, nat_le, nat_lt, not, Bool, true, false, List, [], ◌∷◌, ◌++◌, flat_map, codes, Some, if◌then◌else◌, from_bits, IsTrue}
use Rattle.std.specs.Float.{binary32, binary64, float_is_finite}
use Rattle.std.specs.Float.Ieee.{Format}
use Rattle.ryu.specs.Parse.{parse_float}
use Rattle.ryu.specs.Plain.{IsPlainNumber, word_of}
use Rattle.modbus_map.specs.declared.value.PointValue.{PointValue}
use Rattle.modbus_map.specs.declared.value.PointValue.TheVariants.{State, Number, Single, Double, Text}
use Rattle.modbus_map.specs.Decimals.{text_of}

-- a digit of a byte in base 16, in lower case
abbrev pub hex_digit : ℕ → ℕ
hex_digit n = if nat_lt n 10 then 48 + n else 87 + n

-- a byte that stands for itself: printable ASCII but the backslash
abbrev pub is_plain : ℕ → Bool
is_plain byte = nat_le 32 byte && nat_le byte 126 && not (byte == 92)

-- what is shown for a byte of a text: itself, or `\x` and its two digits in base 16
abbrev pub shown_byte : ℕ → List ℕ
shown_byte byte =
    if is_plain byte then byte ∷ [] else 92 ∷ 120 ∷ hex_digit (byte / 16) ∷ hex_digit (byte % 16) ∷ []

-- a byte before bytes of which the zeros at the end were dropped
abbrev pub trimmed_after : ℕ → List ℕ → List ℕ
trimmed_after byte [] = if byte == 0 then [] else byte ∷ []
trimmed_after byte (next ∷ rest) = byte ∷ next ∷ rest

-- without the zeros at the end, which fill the registers of a text
abbrev pub trimmed : List ℕ → List ℕ
trimmed [] = []
trimmed (byte ∷ rest) = trimmed_after byte (trimmed rest)

-- what is shown for the bytes of a text
abbrev pub shown_bytes : List ℕ → List ℕ
shown_bytes bytes = flat_map shown_byte bytes

abbrev pub state_text : Bool → List ℕ
state_text true = codes "1"
state_text false = codes "0"

-- the bits of a float that is no number: the exponent has all its bits, and the rest is not 0
abbrev pub is_nan_32 : ℕ → Bool
is_nan_32 bits = nat_lt 0x7F80_0000 (bits % 2 ^ 31)

abbrev pub is_nan_64 : ℕ → Bool
is_nan_64 bits = nat_lt 0x7FF0_0000_0000_0000 (bits % 2 ^ 63)

-- `NaN` for no number; else a text that reads back as the float: `inf`, `-inf`, or a plain number as JSON has it
abbrev pub IsFloatText : Format → Bool → ℕ → List ℕ → Type 0
IsFloatText format true bits text = text ≡ codes "NaN"
IsFloatText format false bits text =
    (parse_float format text ≡ Some (from_bits format bits))
    × (IsTrue (float_is_finite (from_bits format bits)) → IsPlainNumber text)
    × (float_is_finite (from_bits format bits) ≡ false → text ≡ word_of (from_bits format bits))

-- the text of a value: 1 or 0 for a state; a number with just its places; a float; a text without the zeros at its end
abbrev pub IsTextOf : PointValue → List ℕ → Type 0
IsTextOf (State state) text = text ≡ state_text state
IsTextOf (Number number) text = text ≡ text_of number
IsTextOf (Single bits) text = IsFloatText binary32 (is_nan_32 bits) bits text
IsTextOf (Double bits) text = IsFloatText binary64 (is_nan_64 bits) bits text
IsTextOf (Text bytes) text = text ≡ shown_bytes (trimmed bytes)

-- what stands in a text of JSON for a byte: what is shown for it, with a backslash before each quotation mark and each backslash
abbrev pub json_byte : ℕ → List ℕ
json_byte byte =
    if byte == 34 then 92 ∷ 34 ∷ [] else
    if is_plain byte then byte ∷ [] else 92 ∷ 92 ∷ 120 ∷ hex_digit (byte / 16) ∷ hex_digit (byte % 16) ∷ []

abbrev pub json_bytes : List ℕ → List ℕ
json_bytes bytes = flat_map json_byte bytes

abbrev pub state_json : Bool → List ℕ
state_json true = codes "true"
state_json false = codes "false"

-- a float is a number of JSON where it is finite
abbrev pub is_json_32 : ℕ → Bool
is_json_32 bits = not (is_nan_32 bits) && float_is_finite (from_bits binary32 bits)

abbrev pub is_json_64 : ℕ → Bool
is_json_64 bits = not (is_nan_64 bits) && float_is_finite (from_bits binary64 bits)

-- a plain number that reads back as the float, and `null` for another one
abbrev pub IsFloatJson : Format → Bool → ℕ → List ℕ → Type 0
IsFloatJson format true bits text = (parse_float format text ≡ Some (from_bits format bits)) × IsPlainNumber text
IsFloatJson format false bits text = text ≡ codes "null"

-- the text of a value as JSON: `true` or `false`; a number; `null` for a float that is none; a text in quotation marks
abbrev pub IsJsonOf : PointValue → List ℕ → Type 0
IsJsonOf (State state) text = text ≡ state_json state
IsJsonOf (Number number) text = text ≡ text_of number
IsJsonOf (Single bits) text = IsFloatJson binary32 (is_json_32 bits) bits text
IsJsonOf (Double bits) text = IsFloatJson binary64 (is_json_64 bits) bits text
IsJsonOf (Text bytes) text = text ≡ 34 ∷ json_bytes (trimmed bytes) ++ 34 ∷ []
