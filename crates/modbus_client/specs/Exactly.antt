-- What a call tells of a search, exactly.
use Rattle.std.specs.Prelude.{◌≡◌, ◌≢◌, ◌⊎◌, ℕ, ◌<◌, List, [], ◌∷◌, Result, Ok, Err, IsOkAnd}
use Rattle.modbus_frame.specs.Stage.{of_bytes, error_stage}
use Rattle.modbus_frame.specs.declared.code.FunctionCode.{FunctionCode}
use Rattle.modbus_frame.specs.declared.fault.Reason.{Reason}
use Rattle.modbus_frame.specs.declared.response.Response.{Response}
use Rattle.modbus_frame.specs.declared.response.ExceptionResponse.{ExceptionResponse}
use Rattle.modbus_frame.specs.declared.fault.Error.TheVariants.{Transport, NoMemory}
use Rattle.modbus_frame.specs.declared.fault.HeaderSeen.{HeaderSeen}
use Rattle.modbus_frame.specs.declared.fault.TransportError.{TransportError}
use Rattle.modbus_frame.specs.declared.fault.TransportError.TheVariants as transport
use Rattle.modbus_pdu.specs.ResponseOf.{AnswerCarriesMemory}
use Rattle.modbus_client.specs.Protocol.{Meaning, Found, waiting, reply, broken}
use Rattle.modbus_client.specs.Matches.{Answer, Judges}

-- the answer to a message of this header, by what its PDU stands for
abbrev pub IsAnswerTo : HeaderSeen → FunctionCode → HeaderSeen → Result (Result Response ExceptionResponse) Reason → Answer → Type 0
IsAnswerTo asked function seen (Ok result) answer = Judges asked function seen result answer
IsAnswerTo asked function seen (Err reason) answer = answer ≡ Err (Transport (transport.InvalidResponse reason))

-- how the end of the input is told
abbrev pub error_at_end : List ℕ → TransportError
error_at_end [] = transport.BrokenPipe
error_at_end (byte ∷ bytes) = transport.BytesRemaining

-- the answers of a call whose search waits
abbrev pub IsOfWaiting : Answer → Type 0
IsOfWaiting (Err (Transport transport.NotConnected)) = ⊥
IsOfWaiting (Err error) = error_stage error ≢ of_bytes
IsOfWaiting (Ok result) = ⊥

-- What a call tells of its search: a message gives its answer, unless memory is wanting for one that carries memory; a PDU that is
-- refused and a fault of the bytes are told, whatever memory there is; where the search waits, the answer is none of the bytes.
abbrev pub IsToldOf : Meaning → HeaderSeen → FunctionCode → Found → Answer → Type 0
IsToldOf means asked function (waiting held) answer = IsOfWaiting answer
IsToldOf means asked function (reply held seen pdu) answer =
    IsAnswerTo asked function seen (means pdu) answer
    ⊎ ((answer ≡ Err NoMemory) × IsOkAnd (means pdu) AnswerCarriesMemory)
IsToldOf means asked function (broken held fault) answer = answer ≡ Err (Transport fault)

-- What a call tells whose search waits with these bytes held, where the request fits and nothing failed: that the turns ran out where so
-- many reads gave bytes, and the end of the input where fewer did and nothing is left to read; or memory is wanting.
pub record TellsWaiting (held : List ℕ) (count turns : ℕ) (left : List ℕ) (answer : Answer) : Type 0 where
  pub turn_limit : count ≡ turns → (answer ≡ Err (Transport transport.TurnLimit)) ⊎ (answer ≡ Err NoMemory)
  pub end_told : left ≡ [] → count < turns → (answer ≡ Err (Transport (error_at_end held))) ⊎ (answer ≡ Err NoMemory)
