-- What is answered over TCP to the function codes that are reserved for exceptions (Modbus Application Protocol V1.1b3, section 4.1).
use Rattle.std.specs.Prelude.{◌≡◌, ◌⊎◌, ◌<◌, ◌≤◌, ℕ, ◌==◌, nat_le, List, [], ◌∷◌, Option, Some, None, Result, Ok, Err, ⊤, if◌then◌else◌}
use Rattle.modbus_frame.specs.Codes.{exception_number}
use Rattle.modbus_frame.specs.FunctionCodes.{exception_bit}
use Rattle.modbus_frame.specs.Meaning.{Asked, Custom}
use Rattle.modbus_frame.specs.declared.code.ExceptionCode.{ExceptionCode}
use Rattle.modbus_frame.specs.declared.code.ExceptionCode.TheVariants.{IllegalFunction}
use Rattle.modbus_frame.specs.declared.response.Response.{Response}
use Rattle.modbus_frame.specs.declared.response.Response.TheVariants as response
use Rattle.modbus_service.specs.Answering.{Answering}
use Rattle.modbus_service.specs.OnlyUnit.{Giving}
use Rattle.modbus_service.specs.Outcome.{Outcome, reply, exception}
use Rattle.modbus_service.specs.declared.service.ServiceError.{ServiceError}
use Rattle.modbus_service.specs.declared.service.ServiceError.TheVariants.{Exception, NoMemory}
use Rattle.modbus_field.specs.declared.standard.answers.StandardAnswers.{StandardAnswers}
use Rattle.modbus_field.specs.declared.stream.reserved.ReservedCodes.{ReservedCodes}
use Rattle.modbus_field.specs.StandardAnswers.{standard_answers}
use Rattle.modbus_field.specs.Unread.{no_function, any_request_of}

-- the reserved function code that bytes begin with: 80 (hexadecimal) or above
abbrev pub first_reserved : List ℕ → Option ℕ
first_reserved [] = None
first_reserved (code ∷ rest) = if nat_le exception_bit code then Some code else None

-- the reserved function code of a request: a PDU that begins with one asks no function, with all of its bytes
abbrev pub reserved_code : Asked → Option ℕ
reserved_code (Custom code bytes) = if code == no_function then first_reserved bytes else None
reserved_code _ = None

-- function code 0, which no device knows either
abbrev pub unknown_function : Asked
unknown_function = Custom no_function (no_function ∷ [])

-- an exception under a reserved function code, whose bit of an exception is set already; all else is as it was told
abbrev pub under_code : ℕ → Outcome → Outcome
under_code code (exception e) = reply (response.Custom code (exception_number e ∷ []))
under_code code told = told

-- What is asked for a request of a reserved function code is function 0, and what is told stands under the request's own code; all else goes
-- through.
abbrev pub GivesUnder : {S : Type 0} → Giving S → Option ℕ → Giving S
GivesUnder gives None old unit request outcome new = gives old unit request outcome new
GivesUnder gives (Some code) old unit request outcome new =
    (told : Outcome) × gives old unit unknown_function told new × (outcome ≡ under_code code told)

abbrev pub reserved_give : {S : Type 0} → Answering S → ReservedCodes S → ℕ → Asked → Outcome → ReservedCodes S → Type 0
reserved_give A old unit request outcome new = GivesUnder A.gives (reserved_code request) old.service unit request outcome new.service

-- memory is wanting where it is for what lies below, or, once that told an exception, for the byte behind a reserved code
abbrev pub WantsUnder : {S : Type 0} → Answering S → Option ℕ → S → ℕ → Asked → S → Type 0
WantsUnder A None old unit request new = A.wants old unit request new
WantsUnder A (Some code) old unit request new =
    A.wants old unit unknown_function new ⊎ ((e : ExceptionCode) × A.gives old unit unknown_function (exception e) new)

abbrev pub reserved_want : {S : Type 0} → Answering S → ReservedCodes S → ℕ → Asked → ReservedCodes S → Type 0
reserved_want A old unit request new = WantsUnder A (reserved_code request) old.service unit request new.service

abbrev pub reserved_codes : {S : Type 0} → Answering S → Answering (ReservedCodes S)
reserved_codes A = record { gives = reserved_give A; wants = reserved_want A }

-- what a call tells under a reserved code, of what lies below told; memory may be refused for the byte of an exception
abbrev pub TellsUnder : ℕ → Result (Option Response) ServiceError → Result (Option Response) ServiceError → Type 0
TellsUnder code (Err (Exception e)) (Ok (Some told)) = told ≡ response.Custom code (exception_number e ∷ [])
TellsUnder code (Err (Exception e)) (Err NoMemory) = ⊤
TellsUnder code (Err (Exception e)) _ = ⊥
TellsUnder code below told = told ≡ below

-- a device behind its unit identifier is asked what a PDU of a reserved code asks: its answer is that code and exception 01, and nothing changes
abbrev pub RefusesReserved : {S : Type 0} → Giving S → (S → ℕ → Asked → Type 0) → Type 0
RefusesReserved {S} gives takes =
    (old new : StandardAnswers S) (unit code : ℕ) (rest : List ℕ) (outcome : Outcome) → exception_bit ≤ code
    → GivesUnder (standard_answers gives takes) (reserved_code (any_request_of (code ∷ rest))) old unit (any_request_of (code ∷ rest)) outcome new
    → (outcome ≡ reply (response.Custom code (exception_number IllegalFunction ∷ []))) × (new ≡ old)

-- a request of any other function code goes through
abbrev pub PassesOthers : Type 0
PassesOthers = (code : ℕ) (rest : List ℕ) → code < exception_bit → reserved_code (any_request_of (code ∷ rest)) ≡ None
