-- What a call of a client does, whatever its protocol.
use Rattle.std.specs.Prelude.{◌≡◌, ◌≢◌, ◌↔◌, ◌⊎◌, ℕ, ◌+◌, ◌<◌, false, List, [], ◌∷◌, ◌++◌, length, IsTrue, Option, Some, None, Result, Ok, Err, IfErr}
use Rattle.modbus_link.specs.declared.outside.Cut.{Cut}
use Rattle.modbus_link.specs.Outside.{cut_at, Outside, outside, Rose, cuts_from}
use Rattle.modbus_link.specs.Line.{LinkMeaning}
use Rattle.modbus_link.specs.Passes.{Passes}
use Rattle.modbus_link.specs.Reads.{totals, HaveRooms, Spending, all_turns, fewer_turns, some_turns, Spends}
use Rattle.modbus_frame.specs.Meaning.{Asked, function_asked}
use Rattle.modbus_frame.specs.Stage.{unsent, writing, of_bytes, transport_stage, error_stage}
use Rattle.modbus_frame.specs.declared.code.FunctionCode.{FunctionCode}
use Rattle.modbus_frame.specs.declared.response.Response.{Response}
use Rattle.modbus_frame.specs.declared.response.ExceptionResponse.{ExceptionResponse}
use Rattle.modbus_frame.specs.declared.fault.Error.{Error}
use Rattle.modbus_frame.specs.declared.fault.Error.TheVariants.{Transport, NoMemory}
use Rattle.modbus_frame.specs.declared.fault.HeaderSeen.{HeaderSeen}
use Rattle.modbus_frame.specs.declared.fault.TransportError.TheVariants as transport
use Rattle.modbus_pdu.specs.Encodes.{Fits, told_size}
use Rattle.modbus_pdu.specs.Limits.{max_pdu}
use Rattle.modbus_pdu.specs.RequestPdu.{request_pdu}
use Rattle.modbus_client.specs.Limits.{read_room}
use Rattle.modbus_client.specs.Protocol.{Protocol, Heading, waiting}
use Rattle.modbus_client.specs.Matches.{Answer, IsOf, answer_of}
use Rattle.modbus_client.specs.Call.{CallState, CallStands, IsSameCall, WantsForCall, IsAnswered, IsOfBytes}
use Rattle.modbus_client.specs.Sends.{WritesRequest, IsOfSending, stays_connected}
use Rattle.modbus_client.specs.State.{ClientState, KeepsSettings, next_header, with_next_header}

-- each read has room for so many bytes
abbrev pub HasRoom : List ℕ → ℕ → Type 0
HasRoom bytes room = room ≡ read_room

-- the search waits in these bytes
abbrev pub IsWaiting : {H : Type 0} → Protocol H → HeaderSeen → List ℕ → List ℕ → Type 0
IsWaiting P asked bytes cuts = (kept : List ℕ) × P.Finds asked bytes cuts (waiting kept)

-- How a connected call ended, by all bytes that it read and their cuts, and by what is then held. An answer of the bytes is that of the
-- search in them; where the input ended, a read failed or the last turn was made, the search waits. Memory is wanting where the search
-- waits, for the request or for a read, or where it found a message whose PDU stands for an answer that carries memory: so it stands
-- in for no fault that the bytes have, be it `InvalidResponse`, `TooManyRetries`, `InvalidLength` or `InvalidProtocol`.
abbrev pub CallEndsAs : {H : Type 0} → Protocol H → HeaderSeen → FunctionCode → List ℕ → List ℕ → List ℕ → Answer → Type 0
CallEndsAs P asked function bytes cuts held (Err (Transport transport.NotConnected)) = ⊥
CallEndsAs P asked function bytes cuts held (Err (Transport (transport.RequestTooLong size))) = (bytes ≡ []) × (held ≡ [])
CallEndsAs P asked function bytes cuts held (Err (Transport transport.WriteFault)) = (bytes ≡ []) × (held ≡ [])
CallEndsAs P asked function bytes cuts held (Err (Transport transport.ReadFault)) = P.Finds asked bytes cuts (waiting held)
CallEndsAs P asked function bytes cuts held (Err (Transport transport.TurnLimit)) = P.Finds asked bytes cuts (waiting held)
CallEndsAs P asked function bytes cuts held (Err (Transport transport.BrokenPipe)) = P.Finds asked bytes cuts (waiting held) × (held ≡ [])
CallEndsAs P asked function bytes cuts held (Err (Transport transport.BytesRemaining)) = P.Finds asked bytes cuts (waiting held) × (held ≢ [])
CallEndsAs P asked function bytes cuts held (Err NoMemory) = IsWaiting P asked bytes cuts ⊎ WantsForCall P asked bytes cuts
CallEndsAs P asked function bytes cuts held answer = IsAnswered P asked function bytes cuts held answer

-- a call ends with the input
abbrev pub CallEndsRead : Answer → List ℕ → Type 0
CallEndsRead (Err (Transport transport.BrokenPipe)) left = left ≡ []
CallEndsRead (Err (Transport transport.BytesRemaining)) left = left ≡ []
CallEndsRead _ left = Unit {0}

-- how many of the turns were spent
abbrev pub call_spending : Answer → Spending
call_spending (Err (Transport transport.BrokenPipe)) = fewer_turns
call_spending (Err (Transport transport.BytesRemaining)) = fewer_turns
call_spending (Err (Transport transport.ReadFault)) = fewer_turns
call_spending (Err (Transport transport.TurnLimit)) = all_turns
call_spending _ = some_turns

-- Sending a request, over every link: so many bytes were sent, nothing was read, and nothing is held.
pub record Sent {X : Type 0} {H : Type 0} (P : Protocol H) (from to : Outside) (header : H) (asked : Asked) (held : List ℕ) (answer : Result X Error) : Type 0 where
  pub sent : List ℕ
  pub passes : Passes from to [] [] sent
  pub source : to.input ≡ from.input
  pub only : IfErr answer IsOfSending
  -- a request is too long exactly where its PDU is
  pub too_long : (size : ℕ) → (answer ≡ Err (Transport (transport.RequestTooLong size))) ↔ ((max_pdu < length (request_pdu asked)) × (size ≡ told_size (request_pdu asked)))
  pub writes : WritesRequest (P.adu header (request_pdu asked)) sent answer
  pub write_fault : answer ≡ Err (Transport transport.WriteFault) → Rose from.output.faults to.output.faults
  pub emptied : held ≡ []

-- one read with room for `read_room` bytes, or none
abbrev pub IsOneRead : List ℕ → List Cut → Type 0
IsOneRead fed made = ((fed ≡ []) × (made ≡ [])) ⊎ ((0 < length fed) × (made ≡ cut_at (length fed) read_room ∷ []))

-- what a call is after a turn, by what it stood for
abbrev pub TurnsAs : {H : Type 0} → Protocol H → List ℕ → List ℕ → List ℕ → CallState → Option Answer → Type 0
TurnsAs P written bytes cuts call None = CallStands P written bytes cuts call
TurnsAs P written bytes cuts call (Some answer) =
    CallEndsAs P call.asked call.function bytes cuts call.held answer × P.Counts call.asked bytes cuts call.dropped

-- A turn on which the call waits on has read. One that tells the end of the input, or a fault of the source, has read nothing; else it
-- has read once, and ends with an answer of the bytes, or memory is wanting.
abbrev pub TurnSpends : Option Answer → ℕ → Type 0
TurnSpends None count = count ≡ 1
TurnSpends (Some (Err (Transport transport.BrokenPipe))) count = count ≡ 0
TurnSpends (Some (Err (Transport transport.BytesRemaining))) count = count ≡ 0
TurnSpends (Some (Err (Transport transport.ReadFault))) count = count ≡ 0
TurnSpends (Some (Err NoMemory)) count = Unit {0}
TurnSpends (Some answer) count = IsOfBytes answer × (count ≡ 1)

abbrev pub TurnEnds : Option Answer → List ℕ → Type 0
TurnEnds None left = Unit {0}
TurnEnds (Some answer) left = CallEndsRead answer left

pub record Turned {H : Type 0} (P : Protocol H) (from to : Outside) (old new : CallState) (answer : Option Answer) : Type 0 where
  pub fed : List ℕ
  pub made : List Cut
  pub passes : Passes from to fed made []
  pub once : IsOneRead fed made
  pub spends : TurnSpends answer (length made)
  pub same : IsSameCall old new
  pub unwritten : new.unwritten ≡ old.unwritten
  pub reads : new.reads ≡ old.reads + length made
  pub stands : (written bytes cuts : List ℕ) → CallStands P written bytes cuts old
      → TurnsAs P written (bytes ++ fed) (cuts ++ totals (cuts_from (length bytes) made)) new answer
  pub ended : IsTrue from.input.told → TurnEnds answer to.input.left
  pub read_fault : answer ≡ Some (Err (Transport transport.ReadFault)) → Rose from.input.faults to.input.faults

-- These bytes came in one read after those in which the search waited.
pub record WaitedBefore {H : Type 0} (P : Protocol H) (asked : HeaderSeen) (bytes : List ℕ) (made : List Cut) : Type 0 where
  pub before : List ℕ
  pub piece : List ℕ
  pub earlier : List Cut
  pub kept : List ℕ
  pub joined : bytes ≡ before ++ piece
  pub last : made ≡ earlier ++ cut_at (length bytes) read_room ∷ []
  pub waits : P.Finds asked before (totals earlier) (waiting kept)

-- An answer of the bytes came with the last read: no read was made after the one that brought it.
abbrev pub CameLast : {H : Type 0} → Protocol H → HeaderSeen → List ℕ → List Cut → Answer → Type 0
CameLast P asked bytes made (Err NoMemory) = Unit {0}
CameLast P asked bytes made (Err (Transport fault)) = transport_stage fault ≡ of_bytes → WaitedBefore P asked bytes made
CameLast P asked bytes made answer = WaitedBefore P asked bytes made

-- an answer that comes only after the whole request was written
abbrev pub IsOfReply : Answer → Type 0
IsOfReply (Err error) = (error_stage error ≢ unsent) × (error_stage error ≢ writing)
IsOfReply _ = Unit {0}

-- What a connected client does with a link to ask this under this header, by its answer and by what it then holds. It holds for every
-- link: `fed` are the bytes that it read, `made` the cuts and rooms of the reads that gave them, and `sent` the bytes that it wrote.
pub record Exchanged {H : Type 0} (P : Protocol H) (from to : Outside) (header : H) (asked : Asked) (turns : ℕ) (held : List ℕ) (answer : Answer) : Type 0 where
  pub fed : List ℕ
  pub made : List Cut
  pub sent : List ℕ
  -- a source and a sink that tell their bytes tell these
  pub passes : Passes from to fed made sent
  -- a request is too long exactly where its PDU is
  pub too_long : (size : ℕ) → (answer ≡ Err (Transport (transport.RequestTooLong size))) ↔ ((max_pdu < length (request_pdu asked)) × (size ≡ told_size (request_pdu asked)))
  pub writes : WritesRequest (P.adu header (request_pdu asked)) sent answer
  pub ends : CallEndsAs P (P.seen header) (function_asked asked) fed (totals made) held answer
  pub last : CameLast P (P.seen header) fed made answer
  pub ended : IsTrue from.input.told → CallEndsRead answer to.input.left
  pub spends : Spends (call_spending answer) (length made) turns
  pub rooms : HaveRooms HasRoom fed 0 made
  pub write_fault : answer ≡ Err (Transport transport.WriteFault) → Rose from.output.faults to.output.faults
  pub read_fault : answer ≡ Err (Transport transport.ReadFault) → Rose from.input.faults to.input.faults

-- in the bytes that it read it dropped so many messages of other requests
abbrev pub CountsDropped : {H : Type 0} {P : Protocol H} {from to : Outside} {header : H} {asked : Asked} {turns : ℕ} {held : List ℕ} {answer : Answer}
    → Exchanged P from to header asked turns held answer → ℕ → Type 0
CountsDropped {P = P} {header = header} ran dropped = P.Counts (P.seen header) ran.fed (totals ran.made) dropped

-- What a call does to a client over a link of this meaning, by the state before, the request, the answer and the state after. It asks
-- under the header that comes next.
pub record Called {L H I : Type 0} (P : Protocol H) (N : Heading H I) (M : LinkMeaning L) (old : ClientState I L) (asked : Asked) (answer : Answer) (new : ClientState I L) : Type 0 where
  -- only its own calls set the slave, the turns and the timeout
  pub keeps : KeepsSettings old new
  -- the timeout of the link, its faults of shutdowns and whether it is down stay, whatever it answers
  pub line : M.line new.link ≡ M.line old.link
  -- each call draws a header, whatever it answers
  pub draws : new.ids ≡ N.next old.ids
  -- a disconnected client does nothing else
  pub disconnected : old.is_connected ≡ false → (answer ≡ Err (Transport transport.NotConnected)) × (new ≡ with_next_header N old)
  pub connected : IsTrue old.is_connected → new.is_connected ≡ stays_connected answer
  pub ran : IsTrue old.is_connected → Exchanged P (outside (M.input old.link) (M.output old.link)) (outside (M.input new.link) (M.output new.link)) (next_header N old) asked old.turns new.held answer
  -- in the bytes that it read it dropped so many messages of other requests
  pub dropped : (on : IsTrue old.is_connected) → CountsDropped (ran on) new.dropped

-- The same of sending a request, which waits for no reply.
pub record SentAlone {L H I : Type 0} (P : Protocol H) (N : Heading H I) (M : LinkMeaning L) (old : ClientState I L) (asked : Asked) (answer : Result (Unit {0}) Error) (new : ClientState I L) : Type 0 where
  pub keeps : KeepsSettings old new
  pub line : M.line new.link ≡ M.line old.link
  pub draws : new.ids ≡ N.next old.ids
  pub disconnected : old.is_connected ≡ false → (answer ≡ Err (Transport transport.NotConnected)) × (new ≡ with_next_header N old)
  pub connected : IsTrue old.is_connected → new.is_connected ≡ stays_connected answer
  pub sent : IsTrue old.is_connected → Sent P (outside (M.input old.link) (M.output old.link)) (outside (M.input new.link) (M.output new.link)) (next_header N old) asked new.held answer
  pub dropped : new.dropped ≡ 0

-- Completeness: a link that fails nowhere and holds one message alone, whose first bytes tell where it ends and which belongs to the
-- request, gives its result in whatever pieces it comes, or memory is wanting.
abbrev pub IsComplete : {L H I : Type 0} → Protocol H → Heading H I → LinkMeaning L → ClientState I L → Asked → Answer → ClientState I L → Type 0
IsComplete P N M old asked answer new =
    IsTrue old.is_connected → Fits (request_pdu asked) → IsTrue (M.input old.link).told
    → (Rose (M.input old.link).faults (M.input new.link).faults → ⊥) → (Rose (M.output old.link).faults (M.output new.link).faults → ⊥)
    → (pdu : List ℕ) (result : Result Response ExceptionResponse) → P.IsWhole (next_header N old) pdu → P.means pdu ≡ Ok result → IsOf (function_asked asked) result
    → (M.input old.link).left ≡ P.adu (next_header N old) pdu → length (M.input old.link).left < old.turns
    → (answer ≡ answer_of result) ⊎ (answer ≡ Err NoMemory)
