-- A request that writes one entry takes no memory.
use Rattle.std.proofs.Common.{ℕ}
use Rattle.modbus_frame.specs.Meaning.{Asked}
use Rattle.modbus_frame.specs.Meaning.Asked.{WriteSingleCoil, WriteSingleRegister, MaskWriteRegister}
use Rattle.modbus_pdu.specs.RequestOf.{CarriesList}
use Rattle.modbus_pdu.specs.SlavePdu.{SlavePdu}
use Rattle.modbus_server.specs.Memory.{TakesNone}
use Rattle.modbus_server.specs.Rtu.{rtu}
use Rattle.modbus_store.specs.Step.{device}
use Rattle.modbus_store.specs.Tables.{Tables}
use Rattle.modbus_app.specs.Memory.{WritesOne, IsSingleWrite}

none_for : (slave : ℕ) (request : Asked) → WritesOne request → (CarriesList request → ⊥) × ((old new : Tables) → device.wants old slave request new → ⊥)
none_for slave (WriteSingleCoil address coil) one = ((λ c. c), (λ old new w. w.1))
none_for slave (WriteSingleRegister address word) one = ((λ c. c), (λ old new w. w.1))
none_for slave (MaskWriteRegister address and_mask or_mask) one = ((λ c. c), (λ old new w. w.1))
none_for slave _ one = absurd one

pub takes_none : (message : SlavePdu) → IsSingleWrite message → TakesNone rtu device message
takes_none message single request asked = none_for message.header request (single request asked)
