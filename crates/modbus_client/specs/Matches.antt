-- Whether an answer belongs to a request.
use Rattle.std.specs.Prelude.{◌≡◌, ◌≢◌, Result, Ok, Err}
use Rattle.modbus_frame.specs.Codes.{function_number}
use Rattle.modbus_frame.specs.Answered.{function_answered}
use Rattle.modbus_frame.specs.declared.code.FunctionCode.{FunctionCode}
use Rattle.modbus_frame.specs.declared.code.ExceptionCode.{ExceptionCode}
use Rattle.modbus_frame.specs.declared.response.Response.{Response}
use Rattle.modbus_frame.specs.declared.response.ExceptionResponse.{ExceptionResponse}
use Rattle.modbus_frame.specs.declared.fault.HeaderSeen.{HeaderSeen}
use Rattle.modbus_frame.specs.declared.fault.Error.{Error}
use Rattle.modbus_frame.specs.declared.fault.Error.TheVariants.{Protocol, Transport, NoMemory}
use Rattle.modbus_frame.specs.declared.fault.ProtocolError.TheVariants.{HeaderMismatch, FunctionCodeMismatch, PayloadMismatch}

-- what a call answers: its fault, or in it what the server answered
abbrev pub Answer : Type 0
Answer = Result (Result Response ExceptionCode) Error

-- what the server answers, as a call gives it
abbrev pub answer_of : Result Response ExceptionResponse → Answer
answer_of (Ok response) = Ok (Ok response)
answer_of (Err refusal) = Ok (Err refusal.exception)

-- An exception is of the function with its number. A response is of the same function code, so an answer of a named function belongs
-- to no request that names it by its number alone.
abbrev pub IsOf : FunctionCode → Result Response ExceptionResponse → Type 0
IsOf function (Ok response) = function_answered response ≡ function
IsOf function (Err refusal) = function_number refusal.function ≡ function_number function

-- What a client makes of a message, by the header and the function of its request, and by the header and the result of the message. A
-- mismatch carries what was compared, and the result.
abbrev pub Judges : HeaderSeen → FunctionCode → HeaderSeen → Result Response ExceptionResponse → Answer → Type 0
Judges asked function seen result (Ok (Ok response)) = (seen ≡ asked) × IsOf function result × (result ≡ Ok response)
Judges asked function seen result (Ok (Err code)) =
    (seen ≡ asked) × IsOf function result × (refusal : ExceptionResponse) × (result ≡ Err refusal) × (refusal.exception ≡ code)
Judges asked function seen result (Err (Protocol (HeaderMismatch request response received))) =
    (seen ≢ asked) × (request ≡ asked) × (response ≡ seen) × (received ≡ result)
Judges asked function seen result (Err (Protocol (FunctionCodeMismatch request received))) =
    (seen ≡ asked) × (IsOf function result → ⊥) × (request ≡ function) × (received ≡ result)
Judges asked function seen result (Err (Protocol (PayloadMismatch response))) = ⊥
Judges asked function seen result (Err (Transport fault)) = ⊥
Judges asked function seen result (Err NoMemory) = ⊥
