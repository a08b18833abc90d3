-- The answer of one exchange is one that a gateway may give.
use Rattle.std.proofs.Common.{◌≡◌, ◌≢◌, ℕ, refl, sym, subst, Result}
use Rattle.std.specs.Prelude.{Option, Some, None}
use Rattle.modbus_link.specs.Line.{LinkMeaning}
use Rattle.modbus_frame.specs.Meaning.{Asked}
use Rattle.modbus_frame.specs.declared.response.Response.{Response}
use Rattle.modbus_frame.specs.declared.fault.Error.{Error}
use Rattle.modbus_service.specs.declared.service.ServiceError.{ServiceError}
use Rattle.modbus_client.specs.Matches.{Answer}
use Rattle.modbus_client.specs.Calls.{Called, SentAlone}
use Rattle.modbus_client.specs.Rtu.{rtu_protocol, rtu_heading}
use Rattle.modbus_service.specs.Outcome.{Outcome, silence, reply, exception}
use Rattle.modbus_service.specs.Answering.{Keeps}
use Rattle.modbus_gateway.specs.Answer.{of_call, of_sending, outcome_of_call, outcome_of_sending, result_given}
use Rattle.modbus_gateway.specs.Forwards.{LineState, to_unit, AsksLine, Exchanges, forwards}

pub keeps_given : {L : Type 0} (M : LinkMeaning L) (old new : LineState L) (unit : ℕ) (request : Asked) (told : Option Outcome)
    → Exchanges M old unit request told new → Keeps (forwards M) old unit request (result_given told) new
keeps_given M old new unit request (Some silence) e = e
keeps_given M old new unit request (Some (reply response)) e = e
keeps_given M old new unit request (Some (exception code)) e = e
keeps_given M old new unit request None e = e

module _ {L : Type 0} (M : LinkMeaning L) (old now new : LineState L) (unit : ℕ) (request : Asked) (result : Result (Option Response) ServiceError) (selected : now ≡ to_unit unit old) where
  -- a request that was sent to all slaves
  pub keeps_sending : (answer : Result (Unit {0}) Error) → unit ≡ 0 → SentAlone rtu_protocol rtu_heading M now request answer new
      → result ≡ result_given (outcome_of_sending answer) → Keeps (forwards M) old unit request result new
  keeps_sending answer all sends told =
      let asks : AsksLine M old unit request (of_sending answer) new = (all, subst (λ line. SentAlone rtu_protocol rtu_heading M line request answer new) selected sends) in
      subst (λ r. Keeps (forwards M) old unit request r new) (sym told) (keeps_given M old new unit request (outcome_of_sending answer) (of_sending answer, asks, refl))

  -- a slave that was called
  pub keeps_call : (answer : Answer) → unit ≢ 0 → Called rtu_protocol rtu_heading M now request answer new
      → result ≡ result_given (outcome_of_call answer) → Keeps (forwards M) old unit request result new
  keeps_call answer single calls told =
      let asks : AsksLine M old unit request (of_call answer) new = (single, subst (λ line. Called rtu_protocol rtu_heading M line request answer new) selected calls) in
      subst (λ r. Keeps (forwards M) old unit request r new) (sym told) (keeps_given M old new unit request (outcome_of_call answer) (of_call answer, asks, refl))
