-- The answer of one exchange on a serial line is one that it may give.
use Rattle.std.proofs.Common.{◌≡◌, ◌≢◌, ℕ, refl, sym, subst, Result}
use Rattle.std.specs.Prelude.{Option, Some, None}
use Rattle.std.specs.declared.borrow.CowSlice.{CowSlice}
use Rattle.std.specs.Global.{Global}
use Rattle.modbus_frame.specs.Meaning.{Asked, meaning}
use Rattle.modbus_frame.specs.declared.request.Request.{Request}
use Rattle.modbus_frame.specs.declared.request.Request.TheVariants as request
use Rattle.modbus_frame.specs.declared.response.Response.{Response}
use Rattle.modbus_frame.specs.declared.fault.Error.{Error}
use Rattle.modbus_service.specs.declared.service.ServiceError.{ServiceError}
use Rattle.modbus_client.specs.Matches.{Answer}
use Rattle.modbus_service.specs.Outcome.{Outcome, silence, reply, exception}
use Rattle.modbus_service.specs.Answering.{Keeps}
use Rattle.modbus_reconnect.specs.OnLine.{CallsStanding}
use Rattle.modbus_reconnect.specs.Tells.{SendsStanding}
use Rattle.modbus_gateway.specs.Answer.{of_call, of_sending, outcome_of_call, outcome_of_sending, result_given}
use Rattle.modbus_gateway.specs.Serial.{SerialState, SerialMeaning, to_unit, CallsSlave, AsksSerial, ExchangesSerial, forwards_settled}

pub keeps_given : {L : Type 0} (m : SerialMeaning L) (old new : SerialState L) (unit : ℕ) (request : Asked) (told : Option Outcome)
    → ExchangesSerial m old unit request told new → Keeps (forwards_settled m) old unit request (result_given told) new
keeps_given m old new unit request (Some silence) e = e
keeps_given m old new unit request (Some (reply response)) e = e
keeps_given m old new unit request (Some (exception code)) e = e
keeps_given m old new unit request None e = e

module _ {L : Type 0} (m : SerialMeaning L) (old now new : SerialState L) (unit : ℕ) (request : Asked) (result : Result (Option Response) ServiceError) (selected : now ≡ to_unit unit old) where
  -- a request that was sent to all slaves
  pub keeps_sending : (told : Result (Unit {0}) Error) → unit ≡ 0 → SendsStanding m now request told new
      → result ≡ result_given (outcome_of_sending told) → Keeps (forwards_settled m) old unit request result new
  keeps_sending told all sends is =
      let asks : AsksSerial m old unit request (of_sending told) new = (all, subst (λ line. SendsStanding m line request told new) selected sends) in
      subst (λ r. Keeps (forwards_settled m) old unit request r new) (sym is) (keeps_given m old new unit request (outcome_of_sending told) (of_sending told, asks, refl))

  -- a slave that was called
  pub keeps_call : (answer : Answer) → unit ≢ 0 → CallsSlave m now request answer new
      → result ≡ result_given (outcome_of_call answer) → Keeps (forwards_settled m) old unit request result new
  keeps_call answer single calls is =
      let asks : AsksSerial m old unit request (of_call answer) new = (single, subst (λ line. CallsSlave m line request answer new) selected calls) in
      subst (λ r. Keeps (forwards_settled m) old unit request r new) (sym is) (keeps_given m old new unit request (outcome_of_call answer) (of_call answer, asks, refl))

-- a request of a kind whose reply is compared with it
pub calls_compared : {L : Type 0} (m : SerialMeaning L) (old new : SerialState L) (asked : Request) (answer : Answer) → asked ≢ request.ReportServerId
    → ((function : ℕ) (bytes : CowSlice ℕ Global) → asked ≢ request.Custom function bytes) → CallsStanding m old (meaning asked) answer new → CallsSlave m old (meaning asked) answer new
calls_compared m old new (request.ReadCoils a b) answer no_id no_custom calls = calls
calls_compared m old new (request.ReadDiscreteInputs a b) answer no_id no_custom calls = calls
calls_compared m old new (request.WriteSingleCoil a b) answer no_id no_custom calls = calls
calls_compared m old new (request.WriteMultipleCoils a b) answer no_id no_custom calls = calls
calls_compared m old new (request.ReadInputRegisters a b) answer no_id no_custom calls = calls
calls_compared m old new (request.ReadHoldingRegisters a b) answer no_id no_custom calls = calls
calls_compared m old new (request.WriteSingleRegister a b) answer no_id no_custom calls = calls
calls_compared m old new (request.WriteMultipleRegisters a b) answer no_id no_custom calls = calls
calls_compared m old new request.ReportServerId answer no_id no_custom calls = absurd (no_id refl)
calls_compared m old new (request.MaskWriteRegister a b c) answer no_id no_custom calls = calls
calls_compared m old new (request.ReadWriteMultipleRegisters a b c d) answer no_id no_custom calls = calls
calls_compared m old new (request.ReadFifoQueue a) answer no_id no_custom calls = calls
calls_compared m old new (request.ReadDeviceIdentification a b) answer no_id no_custom calls = calls
calls_compared m old new (request.Custom function bytes) answer no_id no_custom calls = absurd (no_custom function bytes refl)
