-- The text of a value.
use Rattle.std.specs.Prelude.{ℕ, ◌+◌, ◌/◌, ◌%◌, ◌==◌, ◌&&◌, nat_le, nat_lt, not, Bool, List, [], ◌∷◌, flat_map, decimal, if◌then◌else◌}
use Rattle.std.specs.Fmt.{signed_decimal}
use Rattle.modbus_poll.specs.declared.value.Value.{Value}
use Rattle.modbus_poll.specs.declared.value.Value.TheVariants.{Unsigned, Signed, Text}

-- a digit of a byte in base 16, in lower case
abbrev pub hex_digit : ℕ → ℕ
hex_digit n = if nat_lt n 10 then 48 + n else 87 + n

-- a byte that stands for itself: printable ASCII but the backslash
abbrev pub is_plain : ℕ → Bool
is_plain byte = nat_le 32 byte && nat_le byte 126 && not (byte == 92)

-- what is shown for a byte of a text: itself, or `\x` and its two digits in base 16
abbrev pub shown_byte : ℕ → List ℕ
shown_byte byte =
    if is_plain byte then byte ∷ [] else 92 ∷ 120 ∷ hex_digit (byte / 16) ∷ hex_digit (byte % 16) ∷ []

-- a byte before bytes of which the zeros at the end were dropped
abbrev pub trimmed_after : ℕ → List ℕ → List ℕ
trimmed_after byte [] = if byte == 0 then [] else byte ∷ []
trimmed_after byte (next ∷ rest) = byte ∷ next ∷ rest

-- without the zeros at the end, which fill the registers of a text
abbrev pub trimmed : List ℕ → List ℕ
trimmed [] = []
trimmed (byte ∷ rest) = trimmed_after byte (trimmed rest)

-- what is shown for the bytes of a text
abbrev pub shown_bytes : List ℕ → List ℕ
shown_bytes bytes = flat_map shown_byte bytes

-- a number in decimal, a text by its bytes
abbrev pub shown : Value → List ℕ
shown (Unsigned number) = decimal number
shown (Signed number) = signed_decimal number
shown (Text bytes) = shown_bytes (trimmed bytes)
