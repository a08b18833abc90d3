-- The exchange of one message.
use Rattle.std.proofs.Common.{◌≢◌, ◌-◌, ◌^◌, min, ◌≡◌, ℕ, ◌+◌, List, [], ◌∷◌, length, refl, sym, ap, ◌∙◌, arith, Ok, Err, Result, ◌++◌}
use Rattle.std.specs.Result.{IsOkAnd}
use Rattle.modbus_frame.specs.Meaning.{Asked}
use Rattle.modbus_frame.specs.declared.fault.Reason.{Reason}
use Rattle.modbus_frame.specs.Codes.{exception_number}
use Rattle.modbus_frame.specs.declared.code.ExceptionCode.{ExceptionCode}
use Rattle.modbus_frame.specs.declared.response.Response.{Response}
use Rattle.modbus_frame.specs.declared.response.ExceptionResponse.{ExceptionResponse}
use Rattle.modbus_pdu.specs.Encodes.{Encodes}
use Rattle.modbus_pdu.specs.ResponsePdu.{response_pdu, response_result_pdu}
use Rattle.modbus_pdu.specs.Message.{Message, message}
use Rattle.modbus_server.specs.declared.error.NextError.{NextError}
use Rattle.modbus_server.specs.declared.error.NextError.TheVariants.{Broken, Refused, TooLong, NoMemory}
use Rattle.modbus_server.specs.declared.error.Next.{Next}
use Rattle.modbus_server.specs.declared.error.Next.TheVariants.{Reply, Silent, Waiting}
use Rattle.modbus_service.specs.Outcome.{Outcome, silence, reply, exception, reply_pdu, code_of}
use Rattle.modbus_server.specs.Framing.{Framing}
use Rattle.modbus_service.specs.Answering.{Answering}
use Rattle.modbus_server.specs.Exchanges.{Exchange, Question, ReplyFits, framed_outcome}
use Rattle.modbus_server.specs.Answer.{Answered, FramesAs, AnswersAs}

pub reply_is : (code : ℕ) (response : Response) → reply_pdu code (reply response) ≡ response_pdu response
unfolding reply_pdu
reply_is code response = refl

pub exception_is : (code : ℕ) (e : ExceptionCode) → reply_pdu code (exception e) ≡ (code + 0x80) ∷ exception_number e ∷ []
unfolding reply_pdu
exception_is code e = refl

pub is_request : (r : Result Asked Reason) (P : Asked → Type 0) → IsOkAnd r P → (request : Asked) × (r ≡ Ok request) × P request
is_request (Ok request) P h = (request, refl, h)
is_request (Err reason) P h = absurd h

module _ (F : Framing) where
  abbrev pub exchange : F.Header → Asked → Outcome → Exchange F
  exchange header request outcome = record { header = header; request = request; outcome = outcome }

  -- what an encoder does into an empty buffer that has room
  pub frames_as : (E : Type 0) (header : F.Header) (given : Result Response ExceptionResponse) (before after : List ℕ)
      → Encodes (F.adu header (response_result_pdu given)) (response_result_pdu given) before (Ok tt) after → before ≡ [] → FramesAs F {E = E} header given (Ok Reply) after
  frames_as E header given before after encodes empty = (encodes.fits, encodes.ok ∙ ap (λ front. front ++ F.adu header (response_result_pdu given)) empty)

  -- silence fits
  quiet_fits : (x : Exchange F) → x.outcome ≡ silence → ReplyFits F x
  unfolding reply_pdu
  quiet_fits x e = rw e (omega arith)

  -- an outcome other than silence is framed
  framed_some : (header : F.Header) (code : ℕ) (o : Outcome) → o ≢ silence → framed_outcome F header code o ≡ F.adu header (reply_pdu code o)
  framed_some header code silence some = absurd (some refl)
  framed_some header code (reply response) some = refl
  framed_some header code (exception e) some = refl

  module _ {S : Type 0} (A : Answering S) where
    pub answered : (header : F.Header) (pdu : List ℕ) (old new : S) (request : Asked) (outcome : Outcome)
        → F.request_of pdu ≡ Ok request → A.gives old (F.slave header) request outcome new → Answered F A (message header pdu) old new (exchange header request outcome)
    answered header pdu old new request outcome e step = record { asked = ap (λ r. (header, r)) e; step = step }

    -- the service gave an answer that is not silent, with this PDU
    abbrev pub Gave : Message F.Header → S → Result Response ExceptionResponse → S → Type 0
    Gave message old given new =
        (x : Exchange F) × Answered F A message old new x × (x.outcome ≢ silence) × (reply_pdu (code_of x.request) x.outcome ≡ response_result_pdu given)

    -- the reply of an exchange that is not silent was framed, or is too long
    pub framed_as : {E : Type 0} (message : Message F.Header) (old new : S) (given : Result Response ExceptionResponse) (result : Result Next (NextError E)) (made : List ℕ)
        → Gave message old given new → FramesAs F message.header given result made → AnswersAs F A message old result new made
    framed_as message old new given (Ok Reply) made (x, answer, some, is) (fits, e) =
        let same = ap length is in
        let to : message.header ≡ x.header = ap (λ (q : Question F). q.0) answer.asked in
        (x, answer, omega (arith, same, fits), some, e ∙ ap (λ h. F.adu h (response_result_pdu given)) to ∙ ap (F.adu x.header) (sym is) ∙ sym (framed_some x.header (code_of x.request) x.outcome some))
    framed_as message old new given (Err (TooLong size)) made (x, answer, some, is) (long, e) =
        let same = ap length is in
        (x, answer, e ∙ ap (λ (n : ℕ). min n (2 ^ 64 - 1)) (sym same), omega (arith, long, e))
    framed_as message old new given (Ok Silent) made gave frames = absurd frames
    framed_as message old new given (Ok Waiting) made gave frames = absurd frames
    framed_as message old new given (Err (Broken fault)) made gave frames = absurd frames
    framed_as message old new given (Err (Refused reason)) made gave frames = absurd frames
    framed_as message old new given (Err NoMemory) made gave frames = absurd frames

    pub silent : (E : Type 0) (message : Message F.Header) (old new : S) (made : List ℕ) (x : Exchange F) → Answered F A message old new x → x.outcome ≡ silence → made ≡ []
        → AnswersAs F {E = E} A message old (Ok Silent) new made
    silent E message old new made x done quiet none = (x, done, quiet_fits x quiet, quiet, none)
