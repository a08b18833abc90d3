-- A PDU under the address of a slave, as a frame of a serial line carries it (MODBUS over Serial Line V1.02, section 2.2).
use Rattle.std.specs.Prelude.{ℕ, ◌<◌, ◌≤◌, length}
use Rattle.std.specs.List.{AllByRecursion}
use Rattle.modbus_frame.specs.Meaning.{Asked}
use Rattle.modbus_pdu.specs.Laws.{IsByte}
use Rattle.modbus_pdu.specs.Limits.{max_pdu}
use Rattle.modbus_pdu.specs.Message.{Message, message}
use Rattle.modbus_pdu.specs.RequestPdu.{request_pdu}

-- the slave address and the PDU
abbrev pub SlavePdu : Type 0
SlavePdu = Message ℕ

-- a slave address and a PDU that is not empty and not too long, all of bytes
pub record IsFramed (message : SlavePdu) : Type 0 where
  pub slave : IsByte message.header
  pub bytes : AllByRecursion IsByte message.pdu
  pub some : 0 < length message.pdu
  pub fits : length message.pdu ≤ max_pdu

-- a request for a slave, as the slave address and the PDU of its frame
abbrev pub message_of : ℕ × Asked → SlavePdu
message_of asked = message asked.0 (request_pdu asked.1)
