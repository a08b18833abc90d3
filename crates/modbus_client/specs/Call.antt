-- What a call keeps, and what it does with the bytes that it is fed. There is no IO in it.
use Rattle.std.specs.Prelude.{◌≡◌, ◌≢◌, ℕ, ◌+◌, ◌<◌, List, [], ◌∷◌, ◌++◌, length, Option, Some, None, Result, Ok, Err, OnOk, IfOk, IfErr, IsOkAnd}
use Rattle.bytes.specs.Filled.{Filled}
use Rattle.modbus_frame.specs.Meaning.{Asked, function_asked}
use Rattle.modbus_frame.specs.Stage.{of_bytes, transport_stage}
use Rattle.modbus_frame.specs.declared.code.FunctionCode.{FunctionCode}
use Rattle.modbus_frame.specs.declared.response.Response.{Response}
use Rattle.modbus_frame.specs.declared.response.ExceptionResponse.{ExceptionResponse}
use Rattle.modbus_frame.specs.declared.fault.EncodeError.{EncodeError}
use Rattle.modbus_frame.specs.declared.fault.EncodeError.TheVariants as encode
use Rattle.modbus_frame.specs.declared.fault.Error.TheVariants as error
use Rattle.modbus_frame.specs.declared.fault.HeaderSeen.{HeaderSeen}
use Rattle.modbus_frame.specs.declared.fault.TransportError.{TransportError}
use Rattle.modbus_frame.specs.declared.fault.TransportError.TheVariants as transport
use Rattle.modbus_pdu.specs.Encodes.{Fits, Refuses, told_size}
use Rattle.modbus_pdu.specs.Limits.{max_pdu}
use Rattle.modbus_pdu.specs.RequestPdu.{request_pdu}
use Rattle.modbus_pdu.specs.ResponseOf.{AnswerCarriesMemory}
use Rattle.modbus_client.specs.declared.protocol.Reply.{Reply}
use Rattle.modbus_client.specs.declared.protocol.LookError.{LookError}
use Rattle.modbus_client.specs.declared.protocol.LookError.TheVariants as look
use Rattle.modbus_client.specs.Protocol.{Protocol, waiting, reply, broken, IsOfProtocol}
use Rattle.modbus_client.specs.Matches.{Answer, Judges}

-- what a call keeps itself: the bytes that were fed and not used stand in a buffer beside it
pub record CallAlone : Type 0 where
  pub asked : HeaderSeen
  pub function : FunctionCode
  pub request : List ℕ
  pub unwritten : List ℕ
  pub reads : ℕ
  pub turns : ℕ
  pub dropped : ℕ

-- a call with the bytes that it holds
pub record CallState : Type 0 where
  -- what is compared of the request's header, and its function
  pub asked : HeaderSeen
  pub function : FunctionCode
  -- the bytes of the request, and those of them that were not written yet
  pub request : List ℕ
  pub unwritten : List ℕ
  -- the bytes that were fed and not used
  pub held : List ℕ
  -- how many bytes can be fed with no more memory
  pub free : ℕ
  -- how many reads gave bytes, and how many may
  pub reads : ℕ
  pub turns : ℕ
  -- how many messages of other requests were dropped
  pub dropped : ℕ

-- a call beside this buffer
abbrev pub holding : CallAlone → Filled → CallState
holding call buffer = record {
  asked = call.asked;
  function = call.function;
  request = call.request;
  unwritten = call.unwritten;
  held = buffer.items;
  free = buffer.spare;
  reads = call.reads;
  turns = call.turns;
  dropped = call.dropped;
}

-- one that was opened beside it
abbrev pub opened_with : {E : Type 0} → Filled → Result CallAlone E → Result CallState E
opened_with buffer (Ok call) = Ok (holding call buffer)
opened_with buffer (Err error) = Err error

-- What a call that waits stands for: these bytes were written, which are a front of the request, and then those were fed with these
-- cuts. It reads only once the whole request is written.
pub record CallStands {H : Type 0} (P : Protocol H) (written bytes cuts : List ℕ) (call : CallState) : Type 0 where
  pub wrote : call.request ≡ written ++ call.unwritten
  pub first : call.unwritten ≢ [] → bytes ≡ []
  pub finds : P.Finds call.asked bytes cuts (waiting call.held)
  pub counted : call.reads ≡ length cuts
  pub counts : P.Counts call.asked bytes cuts call.dropped

-- a call that asks this under this header
pub record IsCallFor {H : Type 0} (P : Protocol H) (header : H) (asked : Asked) (turns : ℕ) (call : CallState) : Type 0 where
  pub under : call.asked ≡ P.seen header
  pub function : call.function ≡ function_asked asked
  pub request : call.request ≡ P.adu header (request_pdu asked)
  pub limit : call.turns ≡ turns

-- the same call, which may have gone on
pub record IsSameCall (old new : CallState) : Type 0 where
  pub asked : new.asked ≡ old.asked
  pub function : new.function ≡ old.function
  pub request : new.request ≡ old.request
  pub turns : new.turns ≡ old.turns

-- A call is opened where its PDU fits; it was given nothing yet. Where it isn't opened the PDU is too long, with its size, or memory
-- is wanting for one that fits.
pub record OpensCall {H : Type 0} (P : Protocol H) (header : H) (asked : Asked) (turns : ℕ) (result : Result CallState EncodeError) : Type 0 where
  pub stands : IfOk result (λ call. CallStands P [] [] [] call)
  pub asks : IfOk result (λ call. IsCallFor P header asked turns call)
  pub empty : IfOk result (λ call. call.held ≡ [])
  pub fits : OnOk result (Fits (request_pdu asked))
  pub too_long : max_pdu < length (request_pdu asked) → result ≡ Err (encode.TooLong (told_size (request_pdu asked)))
  pub cause : IfErr result (λ refusal. Refuses refusal (request_pdu asked))

-- memory was refused for a message: the search found it in these bytes, and its PDU stands for an answer that carries memory
abbrev pub WantsForCall : {H : Type 0} → Protocol H → HeaderSeen → List ℕ → List ℕ → Type 0
WantsForCall P asked bytes cuts =
    (rest : List ℕ) × (header : HeaderSeen) × (pdu : List ℕ) × P.Finds asked bytes cuts (reply rest header pdu)
    × IsOkAnd (P.means pdu) AnswerCarriesMemory

-- one look at the bytes that are held after some were fed, by all bytes that were fed and their cuts
abbrev pub LooksAs : {H : Type 0} → Protocol H → HeaderSeen → List ℕ → List ℕ → List ℕ → Result (Option Reply) LookError → Type 0
LooksAs P asked bytes cuts held (Ok None) = P.Finds asked bytes cuts (waiting held)
LooksAs P asked bytes cuts held (Ok (Some found)) = (pdu : List ℕ) × P.Finds asked bytes cuts (reply held found.header pdu) × (P.means pdu ≡ Ok found.result)
LooksAs P asked bytes cuts held (Err (look.Broken fault)) = P.Finds asked bytes cuts (broken held fault)
LooksAs P asked bytes cuts held (Err (look.Refused reason)) =
    (header : HeaderSeen) × (pdu : List ℕ) × P.Finds asked bytes cuts (reply held header pdu) × (P.means pdu ≡ Err reason)
LooksAs P asked bytes cuts held (Err look.NoMemory) = WantsForCall P asked bytes cuts

-- a fault is one of those that are left to protocols
abbrev pub IsOwn : {X : Type 0} → Result X LookError → Type 0
IsOwn (Err (look.Broken fault)) = IsOfProtocol fault
IsOwn _ = Unit {0}

-- the message that the search found has a result, which is judged so
abbrev pub IsJudged : {H : Type 0} → Protocol H → HeaderSeen → FunctionCode → List ℕ → List ℕ → List ℕ → Answer → Type 0
IsJudged P asked function bytes cuts held answer =
    (header : HeaderSeen) × (pdu : List ℕ) × (result : Result Response ExceptionResponse) × P.Finds asked bytes cuts (reply held header pdu)
    × (P.means pdu ≡ Ok result) × Judges asked function header result answer

-- the answers that the bytes give, by all that were fed and their cuts, and by what is then held
abbrev pub IsAnswered : {H : Type 0} → Protocol H → HeaderSeen → FunctionCode → List ℕ → List ℕ → List ℕ → Answer → Type 0
IsAnswered P asked function bytes cuts held (Ok result) = IsJudged P asked function bytes cuts held (Ok result)
IsAnswered P asked function bytes cuts held (Err (error.Protocol fault)) = IsJudged P asked function bytes cuts held (Err (error.Protocol fault))
IsAnswered P asked function bytes cuts held (Err (error.Transport (transport.InvalidResponse reason))) =
    (header : HeaderSeen) × (pdu : List ℕ) × P.Finds asked bytes cuts (reply held header pdu) × (P.means pdu ≡ Err reason)
IsAnswered P asked function bytes cuts held (Err (error.Transport fault)) = IsOfProtocol fault × P.Finds asked bytes cuts (broken held fault)
IsAnswered P asked function bytes cuts held (Err error.NoMemory) = WantsForCall P asked bytes cuts

-- the answers that the bytes may give, and not the link or the limits of the call
abbrev pub IsOfBytes : Answer → Type 0
IsOfBytes (Err (error.Transport fault)) = transport_stage fault ≡ of_bytes
IsOfBytes _ = Unit {0}

abbrev pub IsOfBytesIfSome : Option Answer → Type 0
IsOfBytesIfSome None = Unit {0}
IsOfBytesIfSome (Some answer) = IsOfBytes answer

-- what a call that was fed is then: it waits on, or it has its answer; what it dropped is counted
abbrev pub FeedsAs : {H : Type 0} → Protocol H → List ℕ → List ℕ → List ℕ → CallState → Option Answer → Type 0
FeedsAs P written bytes cuts call None = CallStands P written bytes cuts call
FeedsAs P written bytes cuts call (Some answer) =
    IsAnswered P call.asked call.function bytes cuts call.held answer × P.Counts call.asked bytes cuts call.dropped

-- What `feed` promises: for all that the call stood for, it goes on by the piece.
pub record CallFed {H : Type 0} (P : Protocol H) (old new : CallState) (piece : List ℕ) (answer : Option Answer) : Type 0 where
  pub same : IsSameCall old new
  pub unwritten : new.unwritten ≡ old.unwritten
  pub reads : new.reads ≡ old.reads + 1
  pub late : IsOfBytesIfSome answer
  pub stands : (written bytes cuts : List ℕ) → CallStands P written bytes cuts old
      → FeedsAs P written (bytes ++ piece) (cuts ++ length (bytes ++ piece) ∷ []) new answer

-- how the end of the input is told, by what is held then
abbrev pub TellsEnd : List ℕ → TransportError → Type 0
TellsEnd held transport.BrokenPipe = held ≡ []
TellsEnd held transport.BytesRemaining = held ≢ []
TellsEnd held _ = ⊥
