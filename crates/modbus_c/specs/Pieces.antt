-- What is done with the front of a stream of Modbus TCP (MODBUS Messaging on TCP/IP V1.0b, section 3.1.3).
use Rattle.std.specs.Prelude.{◌≡◌, ℕ, ◌<◌, List, [], take, Option, Some, None, Result, Ok, Err}
use Rattle.modbus_frame.specs.declared.response.Response.{Response}
use Rattle.modbus_frame.specs.declared.response.ExceptionResponse.{ExceptionResponse}
use Rattle.modbus_frame.specs.declared.tcp.Header.{Header}
use Rattle.modbus_pdu.specs.Message.{Message}
use Rattle.modbus_frame.specs.Meaning.{Asked}
use Rattle.modbus_service.specs.Outcome.{Outcome, silence, reply, exception, reply_pdu, code_of}
use Rattle.modbus_tcp.specs.Adu.{adu_of}
use Rattle.modbus_tcp.specs.declared.stream.HeaderFault.{HeaderFault}
use Rattle.modbus_field.specs.Pieces.{FindsPiece, message_in_piece}
use Rattle.modbus_field.specs.Unread.{any_request_of}
use Rattle.modbus_c.specs.declared.serve.Served.{Served}
use Rattle.modbus_c.specs.declared.serve.Served.TheVariants as served
use Rattle.modbus_c.specs.Serves.{WritesReply}

-- the unit identifier that says nothing: the device is reached by its IP address alone (4.4.1.2)
abbrev pub device_itself : ℕ
device_itself = 255

-- what was answered, as an outcome
abbrev pub told_by : Option (Result Response ExceptionResponse) → Outcome
told_by None = silence
told_by (Some (Ok response)) = reply response
told_by (Some (Err refusal)) = exception refusal.exception

-- what devices of a kind tell: of a slave address, a request, an outcome and the next state, whether one may tell this outcome
abbrev pub Telling : Type 0 → Type 1
Telling D = ℕ → Asked → Outcome → D → D → Type 0

-- the device told this to what bytes ask that stand where a PDU is, whatever they are
abbrev pub DeviceTells : {D : Type 0} → Telling D → List ℕ → Outcome → D → D → Type 0
DeviceTells T pdu outcome old new = T device_itself (any_request_of pdu) outcome old new

-- the ADU of what is told to a request of this function code, under the same header; silence has none
abbrev pub told_adu : Header → ℕ → Outcome → List ℕ
told_adu header code silence = []
told_adu header code told = adu_of header (reply_pdu code told)

-- a piece is answered: one reply is written, or none
abbrev pub AnswersPiece : {D : Type 0} → Telling D → Message Header → D → List ℕ → ℕ → List ℕ → D → Type 0
AnswersPiece T it old room written output new = (outcome : Outcome) × DeviceTells T it.pdu outcome old new
    × WritesReply (told_adu it.header (code_of (any_request_of it.pdu)) outcome) room written output

-- What is done with the front of an input. Where no piece stands there nothing is.
abbrev pub ServesPiece : {D : Type 0} → Telling D → D → List ℕ → List ℕ → Result Served HeaderFault → List ℕ → D → Type 0
ServesPiece T old input room (Ok (served.Answered used written)) output new = FindsPiece input (Ok (Some used)) × (0 < written)
    × AnswersPiece T (message_in_piece (take used input)) old room written output new
ServesPiece T old input room (Ok (served.Silent used)) output new = FindsPiece input (Ok (Some used))
    × DeviceTells T (message_in_piece (take used input)).pdu silence old new × (output ≡ room)
ServesPiece T old input room (Ok (served.Waiting dropped)) output new = (dropped ≡ 0) × FindsPiece input (Ok None) × (new ≡ old) × (output ≡ room)
ServesPiece T old input room (Ok (served.Refused used reason)) output new = ⊥
ServesPiece T old input room (Ok served.NoMemory) output new = (new ≡ old) × (output ≡ room)
ServesPiece T old input room (Err fault) output new = FindsPiece input (Err fault) × (new ≡ old) × (output ≡ room)
