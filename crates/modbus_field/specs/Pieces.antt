-- The pieces of a stream, the message of each, and the headers that end it (MODBUS Messaging on TCP/IP V1.0b, section 3.1.3).
use Rattle.std.specs.Prelude.{◌≡◌, ◌≢◌, ◌⊎◌, ℕ, ◌+◌, ◌<◌, ◌≤◌, ◌++◌, List, map, length, take, drop, slice_index, All, Option, Some, None, Result, Ok, Err}
use Rattle.std.specs.List.{flat_map}
use Rattle.modbus_frame.specs.declared.tcp.Header.{Header}
use Rattle.modbus_pdu.specs.Fields.{word_at}
use Rattle.modbus_pdu.specs.Limits.{max_pdu}
use Rattle.modbus_pdu.specs.Message.{Message, message}
use Rattle.modbus_tcp.specs.Limits.{uncounted, unit_identifier, mbap_header, longest_response, modbus_protocol}
use Rattle.modbus_tcp.specs.Stream.{told_length}
use Rattle.modbus_tcp.specs.declared.stream.HeaderFault.{HeaderFault}
use Rattle.modbus_tcp.specs.declared.stream.HeaderFault.TheVariants as fault

-- the greatest length that the header of a request tells: a unit identifier and the longest PDU
abbrev pub most_told : ℕ
most_told = unit_identifier + max_pdu

-- how many bytes tell the transaction and the protocol, the first fields of a header
abbrev pub protocol_end : ℕ
protocol_end = 4

-- what a header of Modbus can tell: a unit identifier and a PDU of at most 253 bytes
abbrev pub IsTold : List ℕ → Type 0
IsTold bytes = (word_at bytes 2 ≡ modbus_protocol) × (0 < told_length bytes) × (told_length bytes ≤ most_told)

-- the transaction, the protocol of Modbus and the length, and as many bytes as the length tells
abbrev pub IsPiece : List ℕ → Type 0
IsPiece piece = (uncounted ≤ length piece) × IsTold piece × (length piece ≡ uncounted + told_length piece)

-- a header of this protocol, which is not Modbus: its first four bytes tell it
abbrev pub IsForeign : List ℕ → ℕ → Type 0
IsForeign bytes protocol = (protocol_end ≤ length bytes) × (word_at bytes 2 ≡ protocol) × (protocol ≢ modbus_protocol)

-- a header of Modbus that tells a length of no request, 0 or above 254: its first six bytes tell it
abbrev pub HasNoLength : List ℕ → Type 0
HasNoLength bytes = (uncounted ≤ length bytes) × (word_at bytes 2 ≡ modbus_protocol) × ((told_length bytes ≡ 0) ⊎ (most_told < told_length bytes))

-- bytes that begin with no whole piece, and with no header that ends the stream
abbrev pub IsPartial : List ℕ → Type 0
IsPartial bytes =
    (length bytes < protocol_end)
    ⊎ ((word_at bytes 2 ≡ modbus_protocol) × (length bytes < uncounted))
    ⊎ (IsTold bytes × (length bytes < uncounted + told_length bytes))

-- what stands at the front of bytes: a whole piece, up to its end; nothing or a front of one, in fewer bytes than the longest has; or a
-- header that ends the stream
abbrev pub FindsPiece : List ℕ → Result (Option ℕ) HeaderFault → Type 0
FindsPiece bytes (Ok (Some end)) = (0 < end) × (end ≤ length bytes) × IsPiece (take end bytes)
FindsPiece bytes (Ok None) = IsPartial bytes × (length bytes < longest_response)
FindsPiece bytes (Err fault.InvalidLength) = HasNoLength bytes
FindsPiece bytes (Err (fault.InvalidProtocol protocol)) = IsForeign bytes protocol

-- pieces one after another
abbrev pub stream_of : List (List ℕ) → List ℕ
stream_of pieces = flat_map (λ piece. piece) pieces

-- the transaction and the unit identifier of a piece
abbrev pub header_of_piece : List ℕ → Header
header_of_piece piece = record { transaction_id = word_at piece 0; unit_id = slice_index piece uncounted }

-- the message of a piece: its header, and the bytes behind it
unfoldable pub message_in_piece : List ℕ → Message Header
message_in_piece piece = message (header_of_piece piece) (drop mbap_header piece)

-- The bytes are these pieces, one after another, and a rest; these are their messages.
pub record AreMessages (bytes rest : List ℕ) (messages : List (Message Header)) : Type 0 where
  pub pieces : List (List ℕ)
  pub joined : bytes ≡ stream_of pieces ++ rest
  pub whole : All IsPiece pieces
  pub are : messages ≡ map message_in_piece pieces
