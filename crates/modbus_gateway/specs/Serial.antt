-- What a serial line that tells silence does with one request of a gateway.
use Rattle.std.specs.Prelude.{◌≡◌, ◌≢◌, ℕ, [], Option, Some, None, IsTrue}
use Rattle.modbus_frame.specs.FunctionCodes.{report_server_id}
use Rattle.modbus_frame.specs.Meaning.{Asked, ReportServerId, Custom}
use Rattle.modbus_frame.specs.declared.rtu.Header.{Header}
use Rattle.modbus_service.specs.Outcome.{Outcome}
use Rattle.modbus_service.specs.Answering.{Answering}
use Rattle.modbus_client.specs.Matches.{Answer}
use Rattle.modbus_reconnect.specs.SettleState.{SettlingState, LineMeaning}
use Rattle.modbus_reconnect.specs.OnLine.{IsStanding, CallsStanding, CallsRaw}
use Rattle.modbus_reconnect.specs.Tells.{SendsStanding}
use Rattle.modbus_gateway.specs.Answer.{LineAnswer, of_call, of_sending, line_outcome}
use Rattle.modbus_gateway.specs.Turns.{Turns}

-- the state of a client of a serial line that tells silence, and what its parts mean
abbrev pub SerialState : Type 0 → Type 0
SerialState L = SettlingState (Unit {0}) L

abbrev pub SerialMeaning : Type 0 → Type 1
SerialMeaning L = LineMeaning Header (Unit {0}) L

-- the same client, whose requests go to this slave
abbrev pub to_unit : {L : Type 0} → ℕ → SerialState L → SerialState L
to_unit slave line = record line { settings = record line.settings { slave = slave } }

-- A call of one slave. The reply to Report Server ID, and to a function that has no kind of its own, goes back with the bytes that came: it
-- tells nothing of what was asked (Modbus Application Protocol V1.1b3, section 6.13).
abbrev pub CallsSlave : {L : Type 0} → SerialMeaning L → SerialState L → Asked → Answer → SerialState L → Type 0
CallsSlave m old ReportServerId answer new = CallsRaw m old (Custom report_server_id []) answer new
CallsSlave m old (Custom code bytes) answer new = CallsRaw m old (Custom code bytes) answer new
CallsSlave m old request answer new = CallsStanding m old request answer new

-- One exchange on the line, by the unit identifier and the request. Unit 0 is the broadcast address of the line: the request is sent to all
-- slaves, and no reply is waited for. Each other unit is the slave of that number, which is called. Either way a line in doubt is settled
-- first, and where that fails nothing is sent.
abbrev pub AsksSerial : {L : Type 0} → SerialMeaning L → SerialState L → ℕ → Asked → LineAnswer → SerialState L → Type 0
AsksSerial m old unit request (of_call answer) new = (unit ≢ 0) × CallsSlave m (to_unit unit old) request answer new
AsksSerial m old unit request (of_sending told) new = (unit ≡ 0) × SendsStanding m (to_unit unit old) request told new

-- The exchange that a request leads to, with this answer of the line.
abbrev pub ExchangesSerial : {L : Type 0} → SerialMeaning L → SerialState L → ℕ → Asked → Option Outcome → SerialState L → Type 0
ExchangesSerial m old unit request told new = (answer : LineAnswer) × AsksSerial m old unit request answer new × (line_outcome answer ≡ told)

-- A line answers by one exchange. Where memory was wanting in it, it stands where the exchange left it.
abbrev pub forwards_settled : {L : Type 0} → SerialMeaning L → Answering (SerialState L)
forwards_settled m = record {
  gives = λ old unit request outcome new. ExchangesSerial m old unit request (Some outcome) new;
  wants = λ old unit request new. ExchangesSerial m old unit request None new;
}

-- However many exchanges were made on a line that was opened in doubt, nothing is owed on it where it is not in doubt.
abbrev pub NothingIsOwed : {L : Type 0} → SerialMeaning L → Type 0
NothingIsOwed {L} m = (start now : SerialState L) (count : ℕ) → IsTrue start.in_doubt → Turns (forwards_settled m) start count now → IsStanding m now
