-- Requests for which a store takes no memory.
use Rattle.std.specs.Prelude.{◌≡◌, Ok}
use Rattle.modbus_pdu.specs.SlavePdu.{SlavePdu}
use Rattle.modbus_frame.specs.Meaning.{Asked}
use Rattle.modbus_frame.specs.Meaning.Asked.{WriteSingleCoil, WriteSingleRegister, MaskWriteRegister}
use Rattle.modbus_pdu.specs.RequestOf.{request_of}

-- those that write one entry: functions 05, 06 and 16 (Modbus Application Protocol V1.1b3, sections 6.5, 6.6 and 6.16)
abbrev pub WritesOne : Asked → Type 0
WritesOne (WriteSingleCoil address coil) = Unit {0}
WritesOne (WriteSingleRegister address word) = Unit {0}
WritesOne (MaskWriteRegister address and_mask or_mask) = Unit {0}
WritesOne _ = ⊥

-- a frame whose PDU, where it is a request, writes one entry
abbrev pub IsSingleWrite : SlavePdu → Type 0
IsSingleWrite message = (request : Asked) → request_of message.pdu ≡ Ok request → WritesOne request
