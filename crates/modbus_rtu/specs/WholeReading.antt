-- A list of bytes that is nothing but frames.
use Rattle.std.specs.Prelude.{◌≡◌, ℕ, List, ◌∷◌, map, flat_map, length, Some, Ok}
use Rattle.modbus_pdu.specs.SlavePdu.{SlavePdu}
use Rattle.modbus_frame.specs.Meaning.{Asked, Custom}
use Rattle.modbus_pdu.specs.Encodes.{Fits}
use Rattle.modbus_pdu.specs.RequestPdu.{request_pdu}
use Rattle.modbus_rtu.specs.Frame.{head, frame}
use Rattle.modbus_rtu.specs.Leftmost.{IsLeftmost}
use Rattle.modbus_rtu.specs.Stands.{frame_at}

-- a slave address and a PDU whose first bytes tell its length
abbrev pub HasHead : SlavePdu → Type 0
HasHead message = head (message.header ∷ message.pdu) ≡ Ok (Some (length message.pdu))

-- their frames, one after another
abbrev pub stream_of : List SlavePdu → List ℕ
stream_of messages = flat_map (λ message. frame message.header message.pdu) messages

-- the leftmost reading delivers exactly these, and stops where the bytes end
abbrev pub IsWholeReading : List ℕ → List SlavePdu → Type 0
IsWholeReading bytes messages = (frames : List ℕ) × IsLeftmost bytes frames (length bytes) × (messages ≡ map (frame_at bytes) frames)

-- a kind of request that the protocol defines, which is each but a custom function
abbrev pub IsModelledAsk : Asked → Type 0
IsModelledAsk (Custom code bytes) = ⊥
IsModelledAsk _ = Unit {0}

-- such a request, with a PDU that is not too long for a frame
abbrev pub IsFramedAsk : Asked → Type 0
IsFramedAsk asked = IsModelledAsk asked × Fits (request_pdu asked)
