-- An ADU of a TCP stream: an MBAP header and a PDU (MODBUS Messaging on TCP/IP V1.0b, section 3.1).
use Rattle.std.specs.Prelude.{ℕ, ◌+◌, ◌-◌, ◌≤◌, List, ◌∷◌, ◌++◌, length}
use Rattle.std.specs.List.{flat_map}
use Rattle.modbus_frame.specs.declared.tcp.Header.{Header}
use Rattle.modbus_pdu.specs.Laws.{IsWord}
use Rattle.modbus_pdu.specs.Word.{word}
use Rattle.modbus_pdu.specs.Message.{Message}
use Rattle.modbus_tcp.specs.Limits.{unit_identifier, max_length, modbus_protocol}

-- the transaction, the protocol, the length of what follows, the unit identifier, and the PDU (section 3.1.3)
unfoldable pub adu_of : Header → List ℕ → List ℕ
adu_of header pdu = word header.transaction_id ++ word modbus_protocol ++ word (length pdu + unit_identifier) ++ header.unit_id ∷ pdu

-- A header and a PDU that an ADU can carry: the transaction is a number of two bytes, and so is the length of the unit identifier
-- and the PDU.
pub record IsAdu (message : Message Header) : Type 0 where
  pub transaction : IsWord message.header.transaction_id
  pub size : length message.pdu ≤ max_length - unit_identifier

-- ADUs, each a header and a PDU
abbrev pub Adus : Type 0
Adus = List (Message Header)

-- these one after another
abbrev pub stream_of : Adus → List ℕ
stream_of messages = flat_map (λ message. adu_of message.header message.pdu) messages
