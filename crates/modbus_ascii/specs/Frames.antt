-- The frames that a list of bytes delivers (MODBUS over Serial Line V1.02, sections 2.5.2.1 and 2.5.2.2).
use Rattle.std.specs.Prelude.{ℕ, ◌+◌, ◌*◌, ◌-◌, ◌%◌, nat_le, sum, Bool, ◌==◌, ◌&&◌, ◌||◌, if◌then◌else◌, List, [], ◌∷◌, ◌++◌, length, take, drop, slice_index}
use Rattle.std.specs.List.{list_all}
use Rattle.modbus_pdu.specs.SlavePdu.{SlavePdu}
use Rattle.modbus_pdu.specs.Message.{message}
use Rattle.modbus_ascii.specs.Limits.{colon, carriage_return, shortest_text, longest_text, overhead}
use Rattle.modbus_ascii.specs.Text.{text, from_end}

-- whether a character is a hexadecimal digit, of either case
abbrev pub is_hex_digit : ℕ → Bool
is_hex_digit c = (nat_le 48 c && nat_le c 57) || (nat_le 65 c && nat_le c 70) || (nat_le 97 c && nat_le c 102)

-- the value of a digit
abbrev pub digit_value : ℕ → ℕ
digit_value c = if nat_le 97 c then c - 87 else if nat_le 65 c then c - 55 else c - 48

-- the bytes whose digits these are, the high one of each first
unfoldable pub bytes_of_digits : List ℕ → List ℕ
bytes_of_digits (high ∷ low ∷ rest) = (16 * digit_value high + digit_value low) ∷ bytes_of_digits rest
bytes_of_digits _ = []

-- An even number of digits, not too few and not too many, whose bytes with the LRC among them add up to 0.
abbrev pub is_frame : List ℕ → Bool
is_frame digits =
    nat_le shortest_text (length digits) && nat_le (length digits) longest_text && length digits % 2 == 0
    && list_all is_hex_digit digits && sum (bytes_of_digits digits) % 256 == 0

-- the slave address and the PDU of the bytes of a frame: the first byte, and those between the first and the last
abbrev pub slave_and_pdu : List ℕ → SlavePdu
slave_and_pdu bytes = message (slice_index bytes 0) (take (length bytes - overhead) (drop 1 bytes))

-- the frame of a text that ends at CR and LF, or none
unfoldable pub frame_of : List ℕ → List SlavePdu
frame_of digits = if is_frame digits then slave_and_pdu (bytes_of_digits digits) ∷ [] else []

-- the frame that a `:` delivers which has these bytes behind it, or none
unfoldable pub frames_delivered : List ℕ → List SlavePdu
frames_delivered behind = if slice_index (from_end behind) 0 == carriage_return then frame_of (text behind) else []

-- the frames that the `:` of the bytes deliver, in order; all other bytes are skipped
unfoldable pub frames : List ℕ → List SlavePdu
frames [] = []
frames (x ∷ xs) = (if x == colon then frames_delivered xs else []) ++ frames xs
