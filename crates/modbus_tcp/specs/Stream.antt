-- A list of bytes as ADUs and a rest (MODBUS Messaging on TCP/IP V1.0b, section 3.1.3).
use Rattle.std.specs.Prelude.{◌≡◌, ◌≢◌, ◌⊎◌, ℕ, ◌+◌, ◌<◌, ◌≤◌, List, [], ◌++◌, length, All}
use Rattle.modbus_frame.specs.declared.tcp.Header.{Header}
use Rattle.modbus_pdu.specs.Fields.{word_at}
use Rattle.modbus_pdu.specs.Message.{Message}
use Rattle.modbus_tcp.specs.Adu.{adu_of, IsAdu, stream_of}
use Rattle.modbus_tcp.specs.Limits.{uncounted, mbap_header, modbus_protocol}

-- the length that a header tells: of the unit identifier and the PDU, which follow it
abbrev pub told_length : List ℕ → ℕ
told_length bytes = word_at bytes 4

-- What is left after the last ADU.
pub data Rest : Type 0 where
  -- nothing
  empty : Rest
  -- a front of an ADU
  unfinished : Rest
  -- a header that tells a length of 0
  no_length : Rest
  -- a whole ADU of another protocol, with its number
  foreign : ℕ → Rest

abbrev pub IsRest : List ℕ → Rest → Type 0
IsRest bytes empty = bytes ≡ []
IsRest bytes unfinished = (0 < length bytes) × ((length bytes < mbap_header) ⊎ ((0 < told_length bytes) × (length bytes < uncounted + told_length bytes)))
IsRest bytes no_length = (mbap_header ≤ length bytes) × (told_length bytes ≡ 0)
IsRest bytes (foreign protocol) =
    (mbap_header ≤ length bytes) × (0 < told_length bytes) × (uncounted + told_length bytes ≤ length bytes) × (protocol ≡ word_at bytes 2) × (protocol ≢ modbus_protocol)

-- the bytes are these ADUs, one after another, and a rest of this kind
pub record IsSplit (bytes : List ℕ) (adus : List (Message Header)) (rest : List ℕ) (kind : Rest) : Type 0 where
  pub joined : bytes ≡ stream_of adus ++ rest
  pub whole : All IsAdu adus
  pub left : IsRest rest kind

-- the bytes begin with this ADU, and the others follow
pub record BeginsWith (bytes : List ℕ) (message : Message Header) (others : List ℕ) : Type 0 where
  pub joined : bytes ≡ adu_of message.header message.pdu ++ others
  pub whole : IsAdu message
