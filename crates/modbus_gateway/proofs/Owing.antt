-- Nothing is owed on a line that is not in doubt, after any number of exchanges.
use Rattle.std.proofs.Common.{ℕ, true≢false, sym, ◌∙◌, Result, Ok, Err}
use Rattle.std.specs.Prelude.{Option, Some, None}
use Rattle.modbus_frame.specs.Meaning.{Asked}
use Rattle.modbus_frame.specs.Meaning as asked
use Rattle.modbus_frame.specs.declared.response.Response.{Response}
use Rattle.modbus_service.specs.declared.service.ServiceError.{ServiceError}
use Rattle.modbus_service.specs.declared.service.ServiceError.TheVariants.{Exception, NoMemory}
use Rattle.modbus_service.specs.Answering.{Keeps}
use Rattle.modbus_client.specs.Matches.{Answer}
use Rattle.modbus_reconnect.specs.OnLine.{IsStanding}
use Rattle.modbus_gateway.specs.Answer.{LineAnswer, of_call, of_sending}
use Rattle.modbus_gateway.specs.Turns.{Turns, untouched, exchanged}
use Rattle.modbus_gateway.specs.Serial.{SerialState, SerialMeaning, to_unit, CallsSlave, AsksSerial, forwards_settled, NothingIsOwed}

module _ {L : Type 0} (m : SerialMeaning L) where
  -- a call of one slave, whichever way its reply is read
  stands_called : (old new : SerialState L) (request : Asked) (answer : Answer) → CallsSlave m old request answer new → IsStanding m old → IsStanding m new
  stands_called old new (asked.ReadCoils a b) answer calls = calls.stands
  stands_called old new (asked.ReadDiscreteInputs a b) answer calls = calls.stands
  stands_called old new (asked.WriteSingleCoil a b) answer calls = calls.stands
  stands_called old new (asked.WriteMultipleCoils a b) answer calls = calls.stands
  stands_called old new (asked.ReadInputRegisters a b) answer calls = calls.stands
  stands_called old new (asked.ReadHoldingRegisters a b) answer calls = calls.stands
  stands_called old new (asked.WriteSingleRegister a b) answer calls = calls.stands
  stands_called old new (asked.WriteMultipleRegisters a b) answer calls = calls.stands
  stands_called old new asked.ReportServerId answer calls = calls.stands
  stands_called old new (asked.MaskWriteRegister a b c) answer calls = calls.stands
  stands_called old new (asked.ReadWriteMultipleRegisters a b c d) answer calls = calls.stands
  stands_called old new (asked.ReadFifoQueue a) answer calls = calls.stands
  stands_called old new (asked.ReadDeviceIdentification a b) answer calls = calls.stands
  stands_called old new (asked.Custom a b) answer calls = calls.stands

  stands_asked : (old new : SerialState L) (unit : ℕ) (request : Asked) (answer : LineAnswer) → AsksSerial m old unit request answer new → IsStanding m old → IsStanding m new
  stands_asked old new unit request (of_call answer) asks stands = stands_called (to_unit unit old) new request answer asks.1 stands
  stands_asked old new unit request (of_sending told) asks stands = asks.1.stands stands

  stands_kept : (old new : SerialState L) (unit : ℕ) (request : Asked) (told : Result (Option Response) ServiceError) → Keeps (forwards_settled m) old unit request told new
      → IsStanding m old → IsStanding m new
  stands_kept old new unit request (Ok None) k stands = stands_asked old new unit request k.0 k.1 stands
  stands_kept old new unit request (Ok (Some response)) k stands = stands_asked old new unit request k.0 k.1 stands
  stands_kept old new unit request (Err (Exception code)) k stands = stands_asked old new unit request k.0 k.1 stands
  stands_kept old new unit request (Err NoMemory) k stands = stands_asked old new unit request k.0 k.1 stands

  led_stands : (start now : SerialState L) (count : ℕ) → IsStanding m start → Turns (forwards_settled m) start count now → IsStanding m now
  led_stands start now count stands untouched = stands
  led_stands start now count stands (exchanged earlier before after unit request told led keeps) =
      stands_kept before after unit request told keeps (led_stands start before earlier stands led)

  pub owes_nothing : NothingIsOwed m
  owes_nothing start now count doubt led = led_stands start now count (λ certain. absurd (true≢false (sym doubt ∙ certain))) led
