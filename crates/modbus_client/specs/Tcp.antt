-- ADUs with an MBAP header as a client sees them (MODBUS Messaging on TCP/IP V1.0b, section 3.1).
use Rattle.std.specs.Prelude.{◌≡◌, ◌≢◌, ◌⊎◌, ℕ, ◌+◌, ◌-◌, ◌%◌, ◌^◌, ◌<◌, ◌≤◌, min, List, ◌++◌, length, drop, All, Option, Some, None}
use Rattle.modbus_frame.specs.declared.tcp.Header.{Header}
use Rattle.modbus_frame.specs.declared.fault.HeaderSeen.{HeaderSeen}
use Rattle.modbus_frame.specs.declared.fault.TransportError.{TransportError}
use Rattle.modbus_frame.specs.declared.fault.TransportError.TheVariants.{InvalidLength, InvalidProtocol}
use Rattle.modbus_pdu.specs.ResponseOf.{response_result_of}
use Rattle.modbus_pdu.specs.Message.{Message, message}
use Rattle.modbus_tcp.specs.Adu.{adu_of, IsAdu, stream_of}
use Rattle.modbus_tcp.specs.Stream.{IsRest, empty, unfinished, no_length, foreign, BeginsWith}
use Rattle.modbus_client.specs.Protocol.{Protocol, Heading, Found, waiting, reply, broken}

-- of a header the transaction and the unit identifier are compared
abbrev pub header_seen : Header → HeaderSeen
header_seen header = record { transaction_id = Some header.transaction_id; slave_id = header.unit_id }

-- a header that tells no ADU
abbrev pub IsBrokenAt : List ℕ → List ℕ → TransportError → Type 0
IsBrokenAt bytes held InvalidLength = IsRest bytes no_length × (held ≡ bytes)
IsBrokenAt bytes held (InvalidProtocol protocol) = IsRest bytes (foreign protocol) × (held ≡ drop 7 bytes)
IsBrokenAt bytes held _ = ⊥

-- The bytes are nothing or a front of an ADU, and all of them are held; or they begin with an ADU, and those behind it are held; or a
-- header tells no ADU of Modbus. The cuts are of no matter.
abbrev pub FindsReplyAdu : List ℕ → List ℕ → Found → Type 0
FindsReplyAdu bytes cuts (waiting held) = (IsRest bytes empty ⊎ IsRest bytes unfinished) × (held ≡ bytes)
FindsReplyAdu bytes cuts (reply held seen pdu) = (header : Header) × BeginsWith bytes (message header pdu) held × (seen ≡ header_seen header)
FindsReplyAdu bytes cuts (broken held fault) = IsBrokenAt bytes held fault

abbrev pub tcp_protocol : Protocol Header
tcp_protocol = record {
  seen = header_seen;
  adu = adu_of;
  means = response_result_of;
  Finds = λ asked. FindsReplyAdu;
  Counts = λ asked bytes cuts dropped. dropped ≡ 0;
  IsWhole = λ header pdu. IsAdu (message header pdu);
}

-- each request draws the transaction that comes next, from 0 on; 65535 is followed by 0
abbrev pub tcp_heading : Heading Header ℕ
tcp_heading = record {
  first = 0;
  header = λ next slave. record { transaction_id = next; unit_id = slave };
  next = λ next. (next + 1) % 2 ^ 16;
}

-- an ADU of another transaction, or of another unit, than was asked (section 4.4.1.3)
abbrev pub IsOfAnother : HeaderSeen → Message Header → Type 0
IsOfAnother asked message = header_seen message.header ≢ asked

-- The bytes are these ADUs, one after another, each of another transaction or unit than was asked, and what is left.
pub record DropsAdus (asked : HeaderSeen) (bytes : List ℕ) (adus : List (Message Header)) (left : List ℕ) : Type 0 where
  pub joined : bytes ≡ stream_of adus ++ left
  pub whole : All IsAdu adus
  pub others : All (IsOfAnother asked) adus

-- Where the bytes begin with a whole ADU of another transaction or unit than was asked, it ends there. None where they begin with no such
-- ADU: if they begin with an ADU, it is of the transaction and the unit that were asked.
abbrev pub EndsOfAnother : HeaderSeen → List ℕ → Option ℕ → Type 0
EndsOfAnother asked bytes (Some end) =
    (0 < end) × (end ≤ length bytes) × (message : Message Header) × BeginsWith bytes message (drop end bytes) × IsOfAnother asked message
EndsOfAnother asked bytes None = (message : Message Header) (others : List ℕ) → BeginsWith bytes message others → header_seen message.header ≡ asked

-- a message that is found is of the transaction and the unit that were asked
abbrev pub IsUnder : HeaderSeen → Found → Type 0
IsUnder asked (reply held seen pdu) = seen ≡ asked
IsUnder asked _ = Unit {0}

-- The ADUs at the front that are of another transaction or unit than was asked are dropped. What is left begins with one of this
-- transaction and unit, which is the reply, and those behind it are held; or it is nothing or a front of an ADU, which is held; or a
-- header in it tells no ADU of Modbus.
pub record FindsOwnAdu (asked : HeaderSeen) (bytes cuts : List ℕ) (found : Found) : Type 0 where
  pub dropped : List (Message Header)
  pub left : List ℕ
  pub drops : DropsAdus asked bytes dropped left
  pub finds : FindsReplyAdu left cuts found
  pub own : IsUnder asked found

-- how many ADUs a counter of 64 bits tells: it stands still at its end
abbrev pub adus_in : List (Message Header) → ℕ
adus_in adus = min (length adus) (2 ^ 64 - 1)

-- The number tells the ADUs that are dropped where the search stands in these bytes.
pub record CountsOthers (asked : HeaderSeen) (bytes cuts : List ℕ) (dropped : ℕ) : Type 0 where
  pub found : Found
  pub finds : FindsOwnAdu asked bytes cuts found
  pub tells : dropped ≡ adus_in finds.dropped

-- the same ADUs and headers, and the reply is the first ADU of the transaction and the unit that were asked
abbrev pub matching_protocol : Protocol Header
matching_protocol = record {
  seen = header_seen;
  adu = adu_of;
  means = response_result_of;
  Finds = FindsOwnAdu;
  Counts = CountsOthers;
  IsWhole = λ header pdu. IsAdu (message header pdu);
}
