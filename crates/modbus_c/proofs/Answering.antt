-- What a device tells to a piece of a stream, as the reply that is written.
use Rattle.std.proofs.Common.{◌≡◌, ℕ, ◌<◌, ◌≤◌, List, [], ◌∷◌, ◌+◌, length, Option, Some, None, Result, Ok, Err, IfOk, IfSome, refl, ap, ◌∙◌, arith}
use Rattle.std.specs.Result.{ForErr}
use Rattle.modbus_frame.specs.Codes.{function_number, exception_number}
use Rattle.modbus_frame.specs.Meaning.{Asked, function_asked}
use Rattle.modbus_frame.specs.declared.code.ExceptionCode.{ExceptionCode}
use Rattle.modbus_frame.specs.declared.response.Response.{Response}
use Rattle.modbus_frame.specs.declared.response.ExceptionResponse.{ExceptionResponse}
use Rattle.modbus_frame.specs.declared.tcp.Header.{Header}
use Rattle.modbus_pdu.specs.Encodes.{Fits}
use Rattle.modbus_pdu.specs.Limits.{max_pdu}
use Rattle.modbus_pdu.specs.Message.{Message}
use Rattle.modbus_pdu.specs.ResponsePdu.{response_pdu, response_result_pdu}
use Rattle.modbus_service.specs.Outcome.{reply, reply_pdu, code_of}
use Rattle.modbus_store.specs.Step.{store_step}
use Rattle.modbus_store.specs.Tables.{Tables}
use Rattle.modbus_tcp.specs.Adu.{adu_of}
use Rattle.modbus_tcp.specs.Limits.{longest_response}
use Rattle.modbus_field.specs.Unread.{any_request_of, unread_of}
use Rattle.modbus_c.specs.Layout.{laid}
use Rattle.modbus_c.specs.Pieces.{told_by, Telling, DeviceTells, AnswersPiece}
use Rattle.modbus_c.specs.Units.{Tells, outcome_of}
use Rattle.modbus_c.proofs.Hearing.{unless_fits}
use Rattle.modbus_c.proofs.Replying.{adu_len}

-- the PDU of an answer is that of what was told
pub told_pdu : (asked : Asked) (it : Result Response ExceptionResponse) → ForErr it (λ refusal. refusal.function ≡ function_asked asked)
    → response_result_pdu it ≡ reply_pdu (code_of asked) (told_by (Some it))
unfolding reply_pdu
told_pdu asked (Ok response) named = refl
told_pdu asked (Err refusal) named = ap (λ f. (function_number f + 0x80) ∷ exception_number refusal.exception ∷ []) (named refusal refl)

pub tells_fit : ((code : ℕ) (tables : Tables) (slave : ℕ) (request : Asked) → length (reply_pdu code (store_step tables slave request).0) ≤ max_pdu)
    → (slave : ℕ) (request : Asked) (response : Response) (old new : Tables) → Tells old slave request (reply response) new → length (response_pdu response) ≤ max_pdu
unfolding reply_pdu
tells_fit fits slave request response old new tells = unless_fits fits (unread_of request) old slave request (reply response) new 0 tells

-- so what is told fits
pub told_fits : ((code : ℕ) (tables : Tables) (slave : ℕ) (request : Asked) → length (reply_pdu code (store_step tables slave request).0) ≤ max_pdu)
    → (slave : ℕ) (request : Asked) (result : Result (Option Response) ExceptionCode) (old new : Tables) → Tells old slave request (outcome_of result) new
    → IfOk result (λ found. IfSome found (λ response. Fits (response_pdu response)))
told_fits fits slave request (Ok (Some response)) old new tells = tells_fit fits slave request response old new tells
told_fits fits slave request (Ok None) old new tells = tt
told_fits fits slave request (Err code) old new tells = tt

-- an answer was written, for which there was room
pub piece_answered : {D : Type 0} (T : Telling D) (it : Message Header) (found : Result Response ExceptionResponse) (old new : D) (room output : List ℕ) (written : ℕ)
    → longest_response ≤ length room → ForErr found (λ refusal. refusal.function ≡ function_asked (any_request_of it.pdu)) → Fits (response_result_pdu found)
    → DeviceTells T it.pdu (told_by (Some found)) old new → output ≡ laid (adu_of it.header (response_result_pdu found)) room
    → written ≡ length (adu_of it.header (response_result_pdu found)) → (0 < written) × AnswersPiece T it old room written output new
piece_answered T it (Ok response) old new room output written wide named fits tells put size =
    let long = adu_len it.header (response_result_pdu (Ok response)) in
    let same = told_pdu (any_request_of it.pdu) (Ok response) named in (
      omega (arith, long, size),
      (told_by (Some (Ok response)), tells, (put ∙ ap (λ pdu. laid (adu_of it.header pdu) room) same, size ∙ ap (λ pdu. length (adu_of it.header pdu)) same, omega (arith, long, size, fits, wide))),
    )
piece_answered T it (Err refusal) old new room output written wide named fits tells put size =
    let long = adu_len it.header (response_result_pdu (Err refusal)) in
    let same = told_pdu (any_request_of it.pdu) (Err refusal) named in (
      omega (arith, long, size),
      (told_by (Some (Err refusal)), tells, (put ∙ ap (λ pdu. laid (adu_of it.header pdu) room) same, size ∙ ap (λ pdu. length (adu_of it.header pdu)) same, omega (arith, long, size, fits, wide))),
    )
