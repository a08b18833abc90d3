-- What comes back of an exchange over memory, by what the service gave.
use Rattle.std.specs.Prelude.{◌≡◌, ◌≢◌, ℕ, ◌<◌, length, Ok, Err}
use Rattle.modbus_frame.specs.Answered.{function_answered}
use Rattle.modbus_frame.specs.Codes.{function_number, exception_number, exception_of}
use Rattle.modbus_frame.specs.Meaning.{Asked, function_asked}
use Rattle.modbus_frame.specs.declared.response.Response.{Response}
use Rattle.modbus_frame.specs.declared.fault.Error.TheVariants.{Protocol, Transport, NoMemory}
use Rattle.modbus_frame.specs.declared.fault.ProtocolError.TheVariants.{FunctionCodeMismatch}
use Rattle.modbus_frame.specs.declared.fault.TransportError.TheVariants.{BrokenPipe}
use Rattle.modbus_pdu.specs.Encodes.{Fits}
use Rattle.modbus_pdu.specs.Limits.{max_pdu}
use Rattle.modbus_pdu.specs.RequestOf.{IsModelled}
use Rattle.modbus_pdu.specs.RequestPdu.{request_pdu}
use Rattle.modbus_pdu.specs.ResponseLaws.{IsResponse, with_filled_coils}
use Rattle.modbus_pdu.specs.ResponsePdu.{response_pdu}
use Rattle.modbus_service.specs.Answering.{Answering}
use Rattle.modbus_service.specs.Outcome.{Outcome, silence, reply, exception}
use Rattle.modbus_rtu.specs.WholeReading.{IsModelledAsk}
use Rattle.modbus_client.specs.Matches.{Answer}

-- What a client makes of a response, each of whose numbers is in the range of its type, as those of every `Response` of the code are. One
-- that fits and is of the function that was asked comes back, with its coils filled by false to a multiple of eight. One of another
-- modelled function is told as that. One that doesn't fit is not sent.
pub record ReplyComesBack (asked : Asked) (given : Response) (answer : Answer) : Type 0 where
  pub own : IsResponse given → Fits (response_pdu given) → function_answered given ≡ function_asked asked → answer ≡ Ok (Ok (with_filled_coils given))
  pub other : IsResponse given → IsModelled (function_number (function_answered given)) → Fits (response_pdu given) → function_answered given ≢ function_asked asked
      → answer ≡ Err (Protocol (FunctionCodeMismatch (function_asked asked) (Ok (with_filled_coils given))))
  pub too_long : max_pdu < length (response_pdu given) → answer ≡ Err (Transport BrokenPipe)

-- The same of each outcome. Silence is the end of the input, and an exception comes back as the code of its number.
abbrev pub OutcomeComesBack : Asked → Outcome → Answer → Type 0
OutcomeComesBack asked silence answer = answer ≡ Err (Transport BrokenPipe)
OutcomeComesBack asked (reply given) answer = ReplyComesBack asked given answer
OutcomeComesBack asked (exception code) answer = answer ≡ Ok (Err (exception_of (exception_number code)))

-- A request of a modelled kind that fits was asked once, for this slave, unless memory is wanting, and its outcome comes back.
abbrev pub ComesBack : {S : Type 0} → Answering S → S → S → ℕ → Asked → Answer → Type 0
ComesBack A before after slave asked answer = IsModelledAsk asked → Fits (request_pdu asked) → answer ≢ Err NoMemory
    → (outcome : Outcome) × A.gives before slave asked outcome after × OutcomeComesBack asked outcome answer
