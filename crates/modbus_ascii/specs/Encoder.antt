-- The characters of a frame (MODBUS over Serial Line V1.02, sections 2.5.2 and 2.5.2.1).
use Rattle.std.specs.Prelude.{ℕ, ◌+◌, ◌/◌, ◌%◌, nat_lt, if◌then◌else◌, List, [], ◌∷◌, ◌++◌}
use Rattle.std.specs.List.{flat_map}
use Rattle.modbus_ascii.specs.Limits.{colon, carriage_return, line_feed}
use Rattle.modbus_ascii.specs.Checksum.{lrc}

-- the character of a digit, with upper-case letters
abbrev pub digit : ℕ → ℕ
digit value = if nat_lt value 10 then value + 48 else value + 55

-- two digits for each byte, the high one first
unfoldable pub text_of : List ℕ → List ℕ
text_of bytes = flat_map (λ byte. digit (byte / 16) ∷ digit (byte % 16) ∷ []) bytes

-- the bytes of a frame: the slave address, the PDU, and the LRC of both
abbrev pub body : ℕ → List ℕ → List ℕ
body slave pdu = slave ∷ pdu ++ lrc (slave ∷ pdu) ∷ []

-- a `:`, the digits, CR and LF
unfoldable pub frame : ℕ → List ℕ → List ℕ
frame slave pdu = colon ∷ text_of (body slave pdu) ++ carriage_return ∷ line_feed ∷ []
