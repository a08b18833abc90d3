-- What a call promises over a link that may not be ready, whatever its protocol.
use Rattle.std.specs.Prelude.{◌≡◌, ◌≢◌, ◌⊎◌, ℕ, ◌<◌, ◌≤◌, List, [], ◌++◌, length, Bool, IsTrue, Option, Result, Ok, Err, IfOk, IfErr, OnOk}
use Rattle.modbus_link.specs.declared.polled.Polled.{Polled}
use Rattle.modbus_link.specs.declared.polled.Polled.TheVariants.{Ready, Pending}
use Rattle.modbus_link.specs.declared.outside.Cut.{Cut}
use Rattle.modbus_link.specs.Outside.{Outside, Rose, Advances, bytes_read, cuts_made, cuts_from, RisesTo}
use Rattle.modbus_link.specs.Passes.{Passes}
use Rattle.modbus_link.specs.Reads.{totals, HaveRooms, Spends}
use Rattle.modbus_frame.specs.Meaning.{Asked, function_asked}
use Rattle.modbus_frame.specs.Stage.{unsent, error_stage}
use Rattle.modbus_frame.specs.declared.response.Response.{Response}
use Rattle.modbus_frame.specs.declared.response.ExceptionResponse.{ExceptionResponse}
use Rattle.modbus_frame.specs.declared.fault.Error.{Error}
use Rattle.modbus_frame.specs.declared.fault.Error.TheVariants.{Transport, NoMemory}
use Rattle.modbus_frame.specs.declared.fault.TransportError.TheVariants as transport
use Rattle.modbus_pdu.specs.Encodes.{Fits, told_size}
use Rattle.modbus_pdu.specs.Limits.{max_pdu}
use Rattle.modbus_pdu.specs.RequestPdu.{request_pdu}
use Rattle.modbus_client.specs.Protocol.{Protocol}
use Rattle.modbus_client.specs.Matches.{Answer, IsOf, answer_of}
use Rattle.modbus_client.specs.Call.{CallState, CallStands, IsCallFor, IsSameCall}
use Rattle.modbus_client.specs.Sends.{WritesRequest}
use Rattle.modbus_client.specs.Calls.{HasRoom, CallEndsAs, CallEndsRead, CameLast, call_spending, Turned, Exchanged}

-- a read found the link not ready: it gave nothing, and the call has more memory at most
pub record ReadsNothing (from to : Outside) (old new : CallState) : Type 0 where
  pub source : Advances from.input to.input
  pub read : IsTrue from.input.told → bytes_read from.input to.input ≡ []
  pub cuts : IsTrue from.input.told → cuts_made from.input to.input ≡ []
  pub sink : to.output ≡ from.output
  pub keeps : new ≡ record old { free = new.free }

-- one turn was made, or the link was not ready for it
abbrev pub TurnsTo : {H : Type 0} → Protocol H → Outside → Outside → CallState → CallState → Polled (Option Answer) → Type 0
TurnsTo P from to old new (Ready answer) = Turned P from to old new answer
TurnsTo P from to old new Pending = ReadsNothing from to old new

-- What a call that waits stands for, over all its polls: these bytes of its request were written, and then those were fed in these
-- reads, of which there are no more than its turns.
pub record CallGoes {H : Type 0} (P : Protocol H) (written bytes : List ℕ) (made : List Cut) (call : CallState) : Type 0 where
  pub stands : CallStands P written bytes (totals made) call
  pub empty : bytes ≡ [] → call.held ≡ []
  pub rises : RisesTo 0 made (length bytes)
  pub rooms : HaveRooms HasRoom bytes 0 made
  pub within : call.reads ≤ call.turns

-- how a call ended, over all its polls
pub record CallEnds {H : Type 0} (P : Protocol H) (written bytes : List ℕ) (made : List Cut) (call : CallState) (answer : Answer) : Type 0 where
  pub writes : WritesRequest call.request written answer
  pub ends : CallEndsAs P call.asked call.function bytes (totals made) call.held answer
  pub counts : P.Counts call.asked bytes (totals made) call.dropped
  pub last : CameLast P call.asked bytes made answer
  pub rooms : HaveRooms HasRoom bytes 0 made
  pub spends : Spends (call_spending answer) (length made) call.turns

-- what it is after a poll
abbrev pub CallPollsAs : {H : Type 0} → Protocol H → List ℕ → List ℕ → List Cut → CallState → Polled Answer → Type 0
CallPollsAs P written bytes made call Pending = CallGoes P written bytes made call
CallPollsAs P written bytes made call (Ready answer) = CallEnds P written bytes made call answer

-- the answers of a poll: a request that was opened is connected, and not too long
abbrev pub IsOfPoll : Polled Answer → Type 0
IsOfPoll (Ready (Err error)) = error_stage error ≢ unsent
IsOfPoll _ = Unit {0}

-- it ends with the input
abbrev pub CallEndsPolled : Polled Answer → List ℕ → Type 0
CallEndsPolled Pending left = Unit {0}
CallEndsPolled (Ready answer) left = CallEndsRead answer left

-- What one poll promises, over every link: it read and wrote these bytes, and for all that the call stood for before it, it stands for
-- that and these after it, or ended so. It reads only once the request is written whole. It is not over only where the link's count of
-- polls that found it not ready rose.
pub record CallPolled {H : Type 0} (P : Protocol H) (from to : Outside) (idle idle' : ℕ) (old new : CallState) (answer : Polled Answer) : Type 0 where
  pub fed : List ℕ
  pub made : List Cut
  pub sent : List ℕ
  pub passes : Passes from to fed made sent
  pub same : IsSameCall old new
  pub goes_on : (written bytes : List ℕ) (earlier : List Cut) → CallGoes P written bytes earlier old
      → CallPollsAs P (written ++ sent) (bytes ++ fed) (earlier ++ cuts_from (length bytes) made) new answer
  pub writes_first : fed ≢ [] → sent ≡ old.unwritten
  pub own : IsOfPoll answer
  pub ended : IsTrue from.input.told → CallEndsPolled answer to.input.left
  pub waited : answer ≡ Pending → Rose idle idle'
  pub later : idle ≤ idle'
  pub read_fault : answer ≡ Ready (Err (Transport transport.ReadFault)) → Rose from.input.faults to.input.faults
  pub write_fault : answer ≡ Ready (Err (Transport transport.WriteFault)) → Rose from.output.faults to.output.faults

-- why a call is not opened: its PDU is too long, of this size, or it fits and memory is wanting
abbrev pub IsRefusedCall : List ℕ → Error → Type 0
IsRefusedCall pdu (Transport (transport.RequestTooLong size)) = (max_pdu < length pdu) × (size ≡ told_size pdu)
IsRefusedCall pdu NoMemory = Fits pdu
IsRefusedCall pdu _ = ⊥

-- A call is opened where its PDU fits, and was given nothing yet. A PDU that is too long is always refused as that.
pub record OpensCallState {H : Type 0} (P : Protocol H) (header : H) (asked : Asked) (turns : ℕ) (result : Result CallState Error) : Type 0 where
  pub goes : IfOk result (λ call. CallGoes P [] [] [] call)
  pub asks : IfOk result (λ call. IsCallFor P header asked turns call)
  pub fits : OnOk result (Fits (request_pdu asked))
  pub too_long : max_pdu < length (request_pdu asked) → result ≡ Err (Transport (transport.RequestTooLong (told_size (request_pdu asked))))
  pub cause : IfErr result (IsRefusedCall (request_pdu asked))

-- a call that is polled
pub record PolledCallState : Type 0 where
  pub call : CallState
  -- whether no poll answered yet
  pub is_open : Bool

-- the same of one that is polled
pub record OpensPolled {H : Type 0} (P : Protocol H) (header : H) (asked : Asked) (turns : ℕ) (result : Result PolledCallState Error) : Type 0 where
  pub goes : IfOk result (λ polled. CallGoes P [] [] [] polled.call)
  pub asks : IfOk result (λ polled. IsCallFor P header asked turns polled.call)
  pub is_open : IfOk result (λ polled. IsTrue polled.is_open)
  pub fits : OnOk result (Fits (request_pdu asked))
  pub too_long : max_pdu < length (request_pdu asked) → result ≡ Err (Transport (transport.RequestTooLong (told_size (request_pdu asked))))
  pub cause : IfErr result (IsRefusedCall (request_pdu asked))

-- the promise of a call of a connected client, where a poll answered
abbrev pub ExchangedIfReady : {H : Type 0} → Protocol H → Outside → Outside → H → Asked → ℕ → List ℕ → Polled Answer → Type 0
ExchangedIfReady P first to header asked turns held Pending = Unit {0}
ExchangedIfReady P first to header asked turns held (Ready answer) = Exchanged P first to header asked turns held answer

-- A poll that answers does, with all polls before it, what a call of a connected client does over the link of all polls.
abbrev pub AsksWhole : {H : Type 0} → Protocol H → Outside → Outside → CallState → CallState → Polled Answer → Type 0
AsksWhole {H} P from to old new answer = (header : H) (asked : Asked) (turns : ℕ) (written bytes : List ℕ) (made : List Cut) (first : Outside)
    → IsCallFor P header asked turns old → Fits (request_pdu asked) → CallGoes P written bytes made old → Passes first from bytes made written
    → ExchangedIfReady P first to header asked turns new.held answer

-- Completeness: a link that fails nowhere and holds one message alone, whose first bytes tell where it ends and which belongs to the
-- request, gives its result in whatever pieces it comes, or memory is wanting.
abbrev pub AnswersAlone : {H : Type 0} → Protocol H → Outside → Outside → H → Asked → ℕ → Answer → Type 0
AnswersAlone P from to header asked turns answer =
    Fits (request_pdu asked) → IsTrue from.input.told → (Rose from.input.faults to.input.faults → ⊥) → (Rose from.output.faults to.output.faults → ⊥)
    → (pdu : List ℕ) (result : Result Response ExceptionResponse) → P.IsWhole header pdu → P.means pdu ≡ Ok result → IsOf (function_asked asked) result
    → from.input.left ≡ P.adu header pdu → length from.input.left < turns → (answer ≡ answer_of result) ⊎ (answer ≡ Err NoMemory)
