-- What a decoder keeps of the `:` that is open, and what it stands for over all bytes that it was fed.
use Rattle.std.specs.Prelude.{◌≡◌, ◌≢◌, ℕ, ◌+◌, ◌/◌, ◌%◌, ◌≤◌, Bool, true, false, nat_le, ◌==◌, ◌&&◌, length, sum, List, [], ◌∷◌, ◌++◌, map, Option, Some, None}
use Rattle.std.specs.List.{list_all, flat_map}
use Rattle.std.specs.Option.{option_to_list}
use Rattle.modbus_pdu.specs.SlavePdu.{SlavePdu}
use Rattle.modbus_pdu.specs.Message.{message}
use Rattle.modbus_ascii.specs.declared.decoder.Phase.{Phase}
use Rattle.modbus_ascii.specs.declared.decoder.Phase.TheVariants.{Closed, Digits, Returned, Skipped, SkippedReturn}
use Rattle.modbus_ascii.specs.declared.decoder.AsciiFrame.{AsciiFrame}
use Rattle.modbus_ascii.specs.Limits.{colon, carriage_return, shortest_body, max_body}
use Rattle.modbus_ascii.specs.Text.{open_end, last}
use Rattle.modbus_ascii.specs.Frames.{is_hex_digit, digit_value, slave_and_pdu, frame_of}

-- how far the text is, the bytes of its digits, and a digit that waits for the second one of its byte
pub record Reading : Type 0 where
  pub phase : Phase
  pub bytes : List ℕ
  pub half : Option ℕ

-- the values of the two digits of each byte, the high one first (section 2.5.2)
abbrev pub digits_of : List ℕ → List ℕ
digits_of bytes = flat_map (λ byte. byte / 16 ∷ byte % 16 ∷ []) bytes

-- the text is nothing but digits, those of the bytes and the one that waits
pub record AreDigits (bytes : List ℕ) (half : Option ℕ) (text : List ℕ) : Type 0 where
  pub digits : list_all is_hex_digit text ≡ true
  pub values : map digit_value text ≡ digits_of bytes ++ option_to_list half

-- no text that begins so is that of a frame
abbrev pub IsUseless : List ℕ → Type 0
IsUseless text = (more : List ℕ) → frame_of (text ++ more) ≡ []

-- a `:` that is open with its text, as each phase keeps it with these bytes and a digit that waits
abbrev pub KeepsInPhase : Phase → List ℕ → Option ℕ → List ℕ → Type 0
KeepsInPhase Closed bytes half now = now ≡ []
KeepsInPhase Digits bytes half now = (text : List ℕ) × (now ≡ colon ∷ text) × AreDigits bytes half text
KeepsInPhase Returned bytes half now = (text : List ℕ) × (now ≡ colon ∷ text ++ carriage_return ∷ []) × AreDigits bytes half text
KeepsInPhase Skipped bytes half now = (text : List ℕ) × (now ≡ colon ∷ text) × IsUseless text × (last now ≢ carriage_return)
KeepsInPhase SkippedReturn bytes half now = (text : List ℕ) × (now ≡ colon ∷ text ++ carriage_return ∷ []) × IsUseless text

abbrev pub KeepsBytes : Reading → List ℕ → Type 0
KeepsBytes reading now = KeepsInPhase reading.phase reading.bytes reading.half now

-- the bytes, with the digit that waits as one more, are no more than a frame has
abbrev pub IsRoomy : Reading → Type 0
IsRoomy reading = length reading.bytes + length (option_to_list reading.half) ≤ max_body

-- a decoder that was fed these bytes
abbrev pub DecodesText : List ℕ → Reading → Type 0
DecodesText fed reading = KeepsBytes reading (open_end fed)

-- whether the bytes are those of a frame, with no digit left over
abbrev pub made_frame : Reading → Bool
made_frame reading = length (option_to_list reading.half) == 0 && nat_le shortest_body (length reading.bytes) && sum reading.bytes % 256 == 0

-- the frame that a byte ended, or none
abbrev pub ended : Bool → Reading → List SlavePdu
ended true reading = slave_and_pdu reading.bytes ∷ []
ended false reading = []

abbrev pub given_frames : Option AsciiFrame → List SlavePdu
given_frames None = []
given_frames (Some frame) = message frame.slave frame.pdu.items ∷ []

-- two digits follow a text that is open
pub record FollowOpen (fed : List ℕ) (high low : ℕ) : Type 0 where
  pub digits : (is_hex_digit high ≡ true) × (is_hex_digit low ≡ true)
  pub «open» : open_end fed ≢ []
  pub grows : open_end (fed ++ high ∷ low ∷ []) ≡ open_end fed ++ high ∷ low ∷ []
