-- What a reply is among frames.
use Rattle.std.specs.Prelude.{◌≡◌, ℕ, List, ◌∷◌, ◌++◌}
use Rattle.modbus_frame.specs.declared.fault.HeaderSeen.{HeaderSeen}
use Rattle.modbus_pdu.specs.SlavePdu.{SlavePdu}
use Rattle.modbus_pdu.specs.Message.{message}
use Rattle.modbus_client.specs.Rtu.{slave_seen}
use Rattle.modbus_ascii_client.specs.Search.{AreOthers}

-- this PDU is that of the first frame of the slave, whose address is in this header
pub record IsFirstOf (slave : ℕ) (found : List SlavePdu) (header : HeaderSeen) (pdu : List ℕ) : Type 0 where
  pub before : List SlavePdu
  pub after : List SlavePdu
  pub among : found ≡ before ++ message slave pdu ∷ after
  pub others : AreOthers slave before
  pub from : header ≡ slave_seen slave
