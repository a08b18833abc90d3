-- What a gateway does with one request: it asks it once on the line, and tells what came of it.
use Rattle.std.specs.Prelude.{◌≡◌, ◌≢◌, ℕ, Option, Some, None}
use Rattle.modbus_link.specs.Line.{LinkMeaning}
use Rattle.modbus_frame.specs.Meaning.{Asked}
use Rattle.modbus_service.specs.Outcome.{Outcome}
use Rattle.modbus_service.specs.Answering.{Answering}
use Rattle.modbus_client.specs.State.{ClientState}
use Rattle.modbus_client.specs.Calls.{Called, SentAlone}
use Rattle.modbus_client.specs.Rtu.{rtu_protocol, rtu_heading}
use Rattle.modbus_gateway.specs.Answer.{LineAnswer, of_call, of_sending, line_outcome}

-- the state of a client of a serial line
abbrev pub LineState : Type 0 → Type 0
LineState L = ClientState (Unit {0}) L

-- the same client, whose requests go to this slave
abbrev pub to_unit : {L : Type 0} → ℕ → LineState L → LineState L
to_unit slave line = record line { slave = slave }

-- One exchange on the line, by the unit identifier and the request. Unit 0 is the broadcast address of the line: the request is sent to all
-- slaves, and no reply is waited for. Each other unit is the slave of that number, which is called.
abbrev pub AsksLine : {L : Type 0} → LinkMeaning L → LineState L → ℕ → Asked → LineAnswer → LineState L → Type 0
AsksLine M old unit request (of_call answer) new = (unit ≢ 0) × Called rtu_protocol rtu_heading M (to_unit unit old) request answer new
AsksLine M old unit request (of_sending answer) new = (unit ≡ 0) × SentAlone rtu_protocol rtu_heading M (to_unit unit old) request answer new

-- The exchange that a request leads to, with this answer of the line.
abbrev pub Exchanges : {L : Type 0} → LinkMeaning L → LineState L → ℕ → Asked → Option Outcome → LineState L → Type 0
Exchanges M old unit request told new = (answer : LineAnswer) × AsksLine M old unit request answer new × (line_outcome answer ≡ told)

-- A gateway answers by one exchange on its line. Where memory was wanting in it, the line stands where the exchange left it.
abbrev pub forwards : {L : Type 0} → LinkMeaning L → Answering (LineState L)
forwards M = record {
  gives = λ old unit request outcome new. Exchanges M old unit request (Some outcome) new;
  wants = λ old unit request new. Exchanges M old unit request None new;
}

-- what answers so behind a view of its state, and keeps the name of the reference through which it is reached
abbrev pub behind : {S T : Type 0} → (S → T) → (S → ℕ) → Answering T → Answering S
behind view name A = record {
  gives = λ old unit request outcome new. A.gives (view old) unit request outcome (view new) × (name new ≡ name old);
  wants = λ old unit request new. A.wants (view old) unit request (view new) × (name new ≡ name old);
}
