-- What the answer to one message does.
use Rattle.std.specs.Prelude.{◌≡◌, ◌≢◌, ◌⊎◌, ℕ, ◌<◌, List, [], length, Result, Ok, Err}
use Rattle.modbus_frame.specs.Meaning.{Asked}
use Rattle.modbus_frame.specs.declared.response.Response.{Response}
use Rattle.modbus_frame.specs.declared.response.ExceptionResponse.{ExceptionResponse}
use Rattle.modbus_pdu.specs.Limits.{max_pdu}
use Rattle.modbus_pdu.specs.Encodes.{Fits, told_size}
use Rattle.modbus_pdu.specs.RequestOf.{CarriesList}
use Rattle.modbus_pdu.specs.ResponsePdu.{response_result_pdu}
use Rattle.modbus_pdu.specs.Message.{Message}
use Rattle.modbus_server.specs.declared.error.Next.{Next}
use Rattle.modbus_server.specs.declared.error.Next.TheVariants.{Reply, Silent}
use Rattle.modbus_server.specs.declared.error.NextError.{NextError}
use Rattle.modbus_server.specs.declared.error.NextError.TheVariants.{Refused, TooLong, NoMemory}
use Rattle.modbus_service.specs.Outcome.{silence}
use Rattle.modbus_server.specs.Framing.{Framing}
use Rattle.modbus_service.specs.Answering.{Answering}
use Rattle.modbus_server.specs.Exchanges.{Exchange, GivesOutcome, ReplyFits, told_reply_size, reply_of, asked_of, asks}

-- the service answered a message in this exchange
pub record Answered (F : Framing) {S : Type 0} (A : Answering S) (message : Message F.Header) (old new : S) (x : Exchange F) : Type 0 where
  pub asked : asked_of F message ≡ asks F x
  pub step : GivesOutcome F A old x new

-- Memory was wanting for a message: for its request, which carries a list, and the service was not asked; or in the service.
abbrev pub WantsFor : (F : Framing) → {S : Type 0} → Answering S → Message F.Header → S → S → Type 0
WantsFor F A message old new =
    (request : Asked) × (F.request_of message.pdu ≡ Ok request) × ((CarriesList request × (new ≡ old)) ⊎ A.wants old (F.slave message.header) request new)

-- An answer is framed, or is too long. There is room for each reply.
abbrev pub FramesAs : (F : Framing) → {E : Type 0} → F.Header → Result Response ExceptionResponse → Result Next (NextError E) → List ℕ → Type 0
FramesAs F header given (Ok Reply) made = Fits (response_result_pdu given) × (made ≡ F.adu header (response_result_pdu given))
FramesAs F header given (Ok _) made = ⊥
FramesAs F header given (Err (TooLong size)) made = (max_pdu < length (response_result_pdu given)) × (size ≡ told_size (response_result_pdu given))
FramesAs F header given (Err _) made = ⊥

-- The reply is framed, there is none, or why there is no answer. There is room for each reply.
abbrev pub AnswersAs : (F : Framing) → {S E : Type 0} → Answering S → Message F.Header → S → Result Next (NextError E) → S → List ℕ → Type 0
AnswersAs F A message old (Ok Reply) new made =
    (x : Exchange F) × Answered F A message old new x × ReplyFits F x × (x.outcome ≢ silence) × (made ≡ reply_of F x)
AnswersAs F A message old (Ok Silent) new made = (x : Exchange F) × Answered F A message old new x × ReplyFits F x × (x.outcome ≡ silence) × (made ≡ [])
AnswersAs F A message old (Ok _) new made = ⊥
AnswersAs F A message old (Err (Refused reason)) new made = (F.request_of message.pdu ≡ Err reason) × (new ≡ old)
AnswersAs F A message old (Err (TooLong size)) new made =
    (x : Exchange F) × Answered F A message old new x × (size ≡ told_reply_size F x) × (max_pdu < size)
AnswersAs F A message old (Err NoMemory) new made = WantsFor F A message old new
AnswersAs F A message old (Err _) new made = ⊥
