-- Frames one after another.
use Rattle.std.specs.Prelude.{ℕ, List}
use Rattle.std.specs.List.{AllByRecursion, flat_map}
use Rattle.modbus_pdu.specs.SlavePdu.{SlavePdu}
use Rattle.modbus_frame.specs.Meaning.{Asked}
use Rattle.modbus_pdu.specs.Encodes.{Fits}
use Rattle.modbus_pdu.specs.Laws.{IsByte}
use Rattle.modbus_pdu.specs.RequestPdu.{request_pdu}
use Rattle.modbus_ascii.specs.Encoder.{frame}

-- their frames, one after another
abbrev pub stream_of : List SlavePdu → List ℕ
stream_of messages = flat_map (λ message. frame message.header message.pdu) messages

-- each number is a byte, and the PDU is not too long for a frame
abbrev pub IsFramedRequest : ℕ × Asked → Type 0
IsFramedRequest asked = IsByte asked.0 × AllByRecursion IsByte (request_pdu asked.1) × Fits (request_pdu asked.1)
