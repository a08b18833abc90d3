-- The bursts of a line, and what each of them says (MODBUS over Serial Line V1.02, section 2.5.1.1).
use Rattle.std.specs.Prelude.{ℕ, zero, suc, ◌+◌, ◌-◌, ◌*◌, ◌==◌, ◌&&◌, not, nat_le, nat_lt, Bool, true, false, if◌then◌else◌, List, [], ◌∷◌, length, take, drop, slice_index, Option, Some, None}
use Rattle.std.specs.List.{flat_map}
use Rattle.modbus_pdu.specs.Limits.{max_pdu}
use Rattle.modbus_pdu.specs.SlavePdu.{SlavePdu}
use Rattle.modbus_pdu.specs.Message.{Message, message}
use Rattle.modbus_rtu.specs.declared.verdict.Verdict.{Verdict}
use Rattle.modbus_rtu.specs.declared.verdict.Verdict.TheVariants.{Good}
use Rattle.modbus_rtu.specs.Checksum.{crc}
use Rattle.modbus_rtu.specs.Frame.{frame, judged_by}
use Rattle.modbus_rtu.specs.Limits.{overhead, checksum, max_frame}
use Rattle.modbus_field.specs.declared.burst.frame.Part.{Part}
use Rattle.modbus_field.specs.declared.burst.frame.Part.TheVariants.{Last, Earlier, Unasked}
use Rattle.modbus_field.specs.declared.burst.frame.FrameHeader.{FrameHeader}
use Rattle.modbus_field.specs.BurstLength.{request_head, reply_head}
use Rattle.modbus_field.specs.BurstLimits.{shortest_frame, most_read, noise_address}

-- The bursts of bytes: what lies between two cuts, the first of them from a total on. Behind the last cut lies none.
unfoldable pub bursts_from : ℕ → List ℕ → List ℕ → List (List ℕ)
bursts_from total bytes [] = []
bursts_from total bytes (cut ∷ cuts) = drop total (take cut bytes) ∷ bursts_from cut bytes cuts

-- Bytes are a frame where they are as many as one has and end with the checksum of the others, its low byte first.
abbrev pub is_frame : List ℕ → Bool
is_frame burst =
    nat_le shortest_frame (length burst) && nat_le (length burst) max_frame
    && crc (take (length burst - checksum) burst) == slice_index burst (length burst - 2) + 256 * slice_index burst (length burst - 1)

-- the slave address and the PDU of a frame
abbrev pub slave_and_pdu : List ℕ → SlavePdu
slave_and_pdu burst = message (slice_index burst 0) (take (length burst - overhead) (drop 1 burst))

-- the frame that a burst is as a whole, or none
unfoldable pub frame_of : List ℕ → List SlavePdu
frame_of burst = if is_frame burst then slave_and_pdu burst ∷ [] else []

-- the length of the frame that a verdict tells, whose PDU has 1 to 253 bytes; 0 where it tells none
abbrev pub length_told : Verdict → ℕ
length_told (Good n) = if nat_lt 0 n && nat_le n max_pdu then n + overhead else 0
length_told _ = 0

-- the length of the frame at the front of bytes that is as long as a request of its function, or as a reply; 0 where there is none
unfoldable pub request_length : List ℕ → ℕ
request_length bytes = length_told (judged_by request_head bytes)

unfoldable pub reply_length : List ℕ → ℕ
reply_length bytes = length_told (judged_by reply_head bytes)

-- The length of the frame at the front of bytes of a burst: of all of them, where they are a frame; else that of a request, where its
-- checksum is right; else that of a reply; 0 where none stands there.
unfoldable pub frame_length : List ℕ → ℕ
frame_length bytes =
    if is_frame bytes then length bytes else
    if nat_lt 0 (request_length bytes) then request_length bytes else reply_length bytes

-- it is read as a reply alone
unfoldable pub is_reply : List ℕ → Bool
is_reply bytes = not (is_frame bytes) && request_length bytes == 0

-- what a frame is in its burst, by whether it is a reply, and by what stands behind it: behind the last one stands no frame
abbrev pub part_before : Bool → List ℕ → Part
part_before reply behind = if reply then Unasked else if frame_length behind == 0 then Last else Earlier

abbrev pub part_at : List ℕ → Part
part_at bytes = part_before (is_reply bytes) (drop (frame_length bytes) bytes)

abbrev pub Heard : Type 0
Heard = Message FrameHeader

abbrev pub heard : ℕ → Part → List ℕ → Heard
heard slave part pdu = message (record { slave = slave; part = part }) pdu

-- the message of the frame at the front of bytes of a burst
unfoldable pub message_at : List ℕ → Heard
message_at bytes = heard (slice_index bytes 0) (part_at bytes) (take (frame_length bytes - overhead) (drop 1 bytes))

-- the message of noise: its PDU has no byte, which that of a frame always has
abbrev pub noise : Heard
noise = heard noise_address Unasked []

-- The messages of bytes of a burst, from a place on: those of the frames that stand one after another, until none stands; what is left
-- is noise.
unfoldable pub said_from : ℕ → List ℕ → List Heard
said_from place [] = []
said_from zero (byte ∷ rest) =
    if frame_length (byte ∷ rest) == 0 then noise ∷ [] else message_at (byte ∷ rest) ∷ said_from (frame_length (byte ∷ rest) - 1) rest
said_from (suc place) (byte ∷ rest) = said_from place rest

-- What a burst says. One of as many bytes as are ever read is noise, as what came behind them is not known.
unfoldable pub said : List ℕ → List Heard
said burst = if nat_le most_read (length burst) then noise ∷ [] else said_from 0 burst

-- the messages of the bursts of bytes, in order
unfoldable pub messages : List ℕ → List ℕ → List Heard
messages bytes cuts = flat_map said (bursts_from 0 bytes cuts)

-- whom a message asks: a reply and noise ask nobody
abbrev pub asked_by : Part → ℕ → ℕ
asked_by Unasked slave = noise_address
asked_by _ slave = slave

abbrev pub slave_asked : FrameHeader → ℕ
slave_asked header = asked_by header.part header.slave

-- the last frame of a burst alone is answered
abbrev pub is_last : Part → Bool
is_last Last = true
is_last _ = false

abbrev pub is_answered : FrameHeader → Bool
is_answered header = is_last header.part

-- the bytes of an answer to a message: its frame, or none
abbrev pub answer_frame : FrameHeader → List ℕ → List ℕ
answer_frame header pdu = if is_answered header then frame header.slave pdu else []

-- a message that is a frame's, as its slave address and its PDU; none where it is noise
abbrev pub frames_in_message : Heard → List SlavePdu
frames_in_message said = if length said.pdu == 0 then [] else message said.header.slave said.pdu ∷ []

-- the frames of the bursts of bytes, in order
unfoldable pub frames : List ℕ → List ℕ → List SlavePdu
frames bytes cuts = flat_map frames_in_message (messages bytes cuts)

-- the slave address and the PDU that were found, as a list
abbrev pub found : {P : Type 0} → (P → SlavePdu) → Option P → List SlavePdu
found parts_of None = []
found parts_of (Some p) = parts_of p ∷ []
