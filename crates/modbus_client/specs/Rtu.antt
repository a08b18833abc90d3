-- Frames of a serial line as a client sees them (MODBUS over Serial Line V1.02, section 2.5.1).
use Rattle.std.specs.Prelude.{◌≡◌, ℕ, ◌+◌, List, take, drop, slice_index, None}
use Rattle.modbus_link.specs.Reads.{AreCuts}
use Rattle.modbus_frame.specs.declared.rtu.Header.{Header}
use Rattle.modbus_frame.specs.declared.fault.HeaderSeen.{HeaderSeen}
use Rattle.modbus_frame.specs.declared.fault.TransportError.{TransportError}
use Rattle.modbus_frame.specs.declared.fault.TransportError.TheVariants.{TooManyRetries}
use Rattle.modbus_pdu.specs.ResponseOf.{response_result_of}
use Rattle.modbus_pdu.specs.Message.{message}
use Rattle.modbus_rtu.specs.Frame.{frame}
use Rattle.modbus_rtu.specs.ResponseHead.{HasResponseHead}
use Rattle.modbus_client.specs.Protocol.{Protocol, Heading, Found}
use Rattle.modbus_client.specs.Protocol as found
use Rattle.modbus_client.specs.Search.{SearchFinds, reply, crowd, waiting}

-- of a header the slave alone is compared
abbrev pub slave_seen : ℕ → HeaderSeen
slave_seen slave = record { transaction_id = None; slave_id = slave }

-- the search waits at an offset, and the bytes from there on are held
pub record Waits (bytes cuts held : List ℕ) : Type 0 where
  pub are_cuts : AreCuts bytes cuts
  pub place : ℕ
  pub finds : SearchFinds bytes cuts (waiting place)
  pub holds : held ≡ drop place bytes

-- the search found the frame at an offset, and the bytes behind it are held
pub record FoundFrame (bytes cuts held : List ℕ) (header : HeaderSeen) (pdu : List ℕ) : Type 0 where
  pub offset : ℕ
  pub pdu_len : ℕ
  pub finds : SearchFinds bytes cuts (reply offset pdu_len)
  pub from : header ≡ slave_seen (slice_index bytes offset)
  pub is : pdu ≡ take pdu_len (drop (offset + 1) bytes)
  pub holds : held ≡ drop (offset + (pdu_len + 3)) bytes

-- the search found a crowd, and the bytes behind it are held
pub record FoundCrowd (bytes cuts held : List ℕ) (fault : TransportError) : Type 0 where
  pub offset : ℕ
  pub finds : SearchFinds bytes cuts (crowd offset)
  pub is : fault ≡ TooManyRetries
  pub holds : held ≡ drop (offset + 1) bytes

abbrev pub FindsReplyFrame : List ℕ → List ℕ → Found → Type 0
FindsReplyFrame bytes cuts (found.waiting held) = Waits bytes cuts held
FindsReplyFrame bytes cuts (found.reply held header pdu) = FoundFrame bytes cuts held header pdu
FindsReplyFrame bytes cuts (found.broken held fault) = FoundCrowd bytes cuts held fault

abbrev pub rtu_protocol : Protocol Header
rtu_protocol = record {
  seen = λ header. slave_seen header.slave_id;
  adu = λ header pdu. frame header.slave_id pdu;
  means = response_result_of;
  Finds = λ asked. FindsReplyFrame;
  Counts = λ asked bytes cuts dropped. dropped ≡ 0;
  IsWhole = λ header pdu. HasResponseHead (message header.slave_id pdu);
}

-- a frame has the address of its slave alone, so a client keeps nothing for it
abbrev pub rtu_heading : Heading Header (Unit {0})
rtu_heading = record { first = tt; header = λ ids slave. record { slave_id = slave }; next = λ ids. ids }
