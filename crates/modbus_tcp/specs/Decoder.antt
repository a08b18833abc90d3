-- What stands at the front of bytes, what the decoders take out of a buffer, and what then stands in it.
use Rattle.std.specs.Prelude.{◌≡◌, ◌⊎◌, ℕ, ◌<◌, ◌≤◌, List, length, drop, slice_index, Option, Some, None, Result, Ok, Err, IsOkAnd}
use Rattle.modbus_frame.specs.declared.tcp.Header.{Header}
use Rattle.modbus_frame.specs.declared.fault.Reason.{Reason}
use Rattle.modbus_frame.specs.declared.fault.PduError.{PduError}
use Rattle.modbus_frame.specs.declared.fault.PduError.TheVariants as pdu_errors
use Rattle.modbus_pdu.specs.Fields.{word_at}
use Rattle.modbus_pdu.specs.Message.{Message, message}
use Rattle.modbus_tcp.specs.declared.mbap.Mbap.{Mbap}
use Rattle.modbus_frame.specs.declared.front.Front.{Front}
use Rattle.modbus_frame.specs.declared.front.Front.TheVariants as found
use Rattle.modbus_tcp.specs.declared.stream.HeaderFault.{HeaderFault}
use Rattle.modbus_tcp.specs.declared.stream.HeaderFault.TheVariants as faults
use Rattle.modbus_tcp.specs.declared.decoder.TcpError.{TcpError}
use Rattle.modbus_tcp.specs.declared.decoder.TcpError.TheVariants as errors
use Rattle.modbus_tcp.specs.Stream.{told_length, IsRest, empty, unfinished, no_length, foreign, BeginsWith}
use Rattle.modbus_tcp.specs.Limits.{mbap_header, longest_adu}

-- the bytes begin with a header of these fields (section 3.1.3)
pub record TellsHeader (bytes : List ℕ) (mbap : Mbap) : Type 0 where
  pub transaction : mbap.header.transaction_id ≡ word_at bytes 0
  pub protocol : mbap.protocol ≡ word_at bytes 2
  pub length : mbap.length ≡ told_length bytes
  pub unit_id : mbap.header.unit_id ≡ slice_index bytes 6

-- What stands at the front of bytes: an ADU, with its PDU and the place where the others begin; nothing or a front of an ADU, in
-- fewer bytes than the longest ADU has; or a header that is no header of Modbus (section 3.1.3).
abbrev pub FindsAdu : List ℕ → Result (Front Header) HeaderFault → Type 0
FindsAdu bytes (Ok (found.Message header pdu end)) = BeginsWith bytes (message header pdu.now) (drop end bytes) × (0 < end) × (end ≤ length bytes)
FindsAdu bytes (Ok (found.Waiting dropped)) = (dropped ≡ 0) × (IsRest bytes empty ⊎ IsRest bytes unfinished) × (length bytes < longest_adu)
FindsAdu bytes (Err faults.InvalidLength) = IsRest bytes no_length
FindsAdu bytes (Err (faults.InvalidProtocol protocol)) = IsRest bytes (foreign protocol)

-- From the buffer before, what the decoder of ADUs answers, and the buffer after. The first ADU is given and leaves the buffer.
-- Where the bytes begin no ADU the buffer stays as it is, but for the header of another protocol, which is gone.
abbrev pub TakesAdu : List ℕ → Result (Option (Header × List ℕ)) TcpError → List ℕ → Type 0
TakesAdu old (Ok (Some adu)) new = BeginsWith old (message adu.0 adu.1) new
TakesAdu old (Ok None) new = (IsRest old empty ⊎ IsRest old unfinished) × (new ≡ old)
TakesAdu old (Err errors.InvalidLength) new = IsRest old no_length × (new ≡ old)
TakesAdu old (Err (errors.InvalidProtocol protocol)) new = IsRest old (foreign protocol) × (new ≡ drop mbap_header old)
TakesAdu old (Err (errors.Invalid reason)) new = ⊥
TakesAdu old (Err errors.NoMemory) new = (message : Message Header) × (others : List ℕ) × BeginsWith old message others × (new ≡ old)

-- as what the decoder and the codecs tell a header that is no header of Modbus
abbrev pub header_error : HeaderFault → TcpError
header_error faults.InvalidLength = errors.InvalidLength
header_error (faults.InvalidProtocol protocol) = errors.InvalidProtocol protocol

-- what such a header leaves in the buffer: one of another protocol is gone
abbrev pub left_by : HeaderFault → List ℕ → List ℕ
left_by faults.InvalidLength bytes = bytes
left_by (faults.InvalidProtocol _) bytes = drop mbap_header bytes

-- why a codec gives no message, of an ADU whose PDU is not read
abbrev pub error_of : PduError → TcpError
error_of (pdu_errors.Refused reason) = errors.Invalid reason
error_of pdu_errors.NoMemory = errors.NoMemory

-- The same of a codec, which reads the PDU of the first ADU where it lies: `header` and `meaning` are what its answer tells of the
-- ADU. Where the PDU is refused the ADU is gone. Memory is wanting only for a PDU that stands for something that carries memory;
-- nothing is gone then.
abbrev pub ReadsAdu : {A M : Type 0} → (List ℕ → Result M Reason) → (M → Type 0) → (A → Header) → (A → M) → List ℕ → Result (Option A) TcpError → List ℕ → Type 0
ReadsAdu read carries header meaning old (Ok (Some adu)) new =
    (pdu : List ℕ) × BeginsWith old (message (header adu) pdu) new × (read pdu ≡ Ok (meaning adu))
ReadsAdu read carries header meaning old (Ok None) new = (IsRest old empty ⊎ IsRest old unfinished) × (new ≡ old)
ReadsAdu read carries header meaning old (Err errors.InvalidLength) new = IsRest old no_length × (new ≡ old)
ReadsAdu read carries header meaning old (Err (errors.InvalidProtocol protocol)) new = IsRest old (foreign protocol) × (new ≡ drop mbap_header old)
ReadsAdu read carries header meaning old (Err (errors.Invalid reason)) new =
    (message : Message Header) × BeginsWith old message new × (read message.pdu ≡ Err reason)
ReadsAdu read carries header meaning old (Err errors.NoMemory) new =
    (message : Message Header) × (others : List ℕ) × BeginsWith old message others × IsOkAnd (read message.pdu) carries × (new ≡ old)
