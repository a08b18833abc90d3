-- An exchange over memory: what a call answers whose link gives the bytes that a server appends.
use Rattle.std.specs.Prelude.{◌≡◌, ◌↔◌, ◌⊎◌, ℕ, zero, suc, ◌*◌, ◌<◌, min, List, [], ◌∷◌, ◌++◌, length, take, drop, Result, Err}
use Rattle.modbus_frame.specs.Meaning.{Asked, function_asked}
use Rattle.modbus_frame.specs.declared.code.FunctionCode.{FunctionCode}
use Rattle.modbus_frame.specs.declared.fault.HeaderSeen.{HeaderSeen}
use Rattle.modbus_frame.specs.declared.fault.Error.TheVariants.{Transport, NoMemory}
use Rattle.modbus_frame.specs.declared.fault.TransportError.TheVariants as transport
use Rattle.modbus_pdu.specs.Encodes.{Fits, told_size}
use Rattle.modbus_pdu.specs.Limits.{max_pdu}
use Rattle.modbus_pdu.specs.RequestPdu.{request_pdu}
use Rattle.modbus_rtu.specs.Frame.{frame}
use Rattle.modbus_service.specs.Answering.{Answering}
use Rattle.modbus_server.specs.declared.error.ProcessError.{ProcessError}
use Rattle.modbus_server.specs.declared.error.ProcessError.TheVariants as process
use Rattle.modbus_server.specs.Piece.{IsOfNoRead}
use Rattle.modbus_server.specs.Served as server
use Rattle.modbus_server.specs.Rtu.{rtu}
use Rattle.modbus_client.specs.Limits.{read_room}
use Rattle.modbus_client.specs.Protocol.{Protocol}
use Rattle.modbus_client.specs.Matches.{Answer}
use Rattle.modbus_client.specs.Calls.{CallEndsAs, CallEndsRead, IsOfReply}
use Rattle.modbus_client.specs.Rtu.{rtu_protocol, slave_seen}

-- the cuts of the first so many reads, each of which gives as many bytes as its room holds
abbrev pub full_cuts : ℕ → List ℕ → List ℕ
full_cuts zero bytes = []
full_cuts (suc n) bytes = full_cuts n bytes ++ min (suc n * read_room) (length bytes) ∷ []

-- the answers of a call that gets bytes and then their end
abbrev pub IsOfReplies : Answer → Type 0
IsOfReplies (Err (Transport transport.ReadFault)) = ⊥
IsOfReplies (Err (Transport transport.TurnLimit)) = ⊥
IsOfReplies answer = IsOfReply answer

-- A call that was asked gets these bytes, as many in each read as its room holds, and then their end: so many reads were made of them,
-- and it ended so.
pub record ReadsAll {H : Type 0} (P : Protocol H) (asked : HeaderSeen) (function : FunctionCode) (bytes held : List ℕ) (answer : Answer) : Type 0 where
  pub only : IsOfReplies answer
  pub reads : ℕ
  pub ends : CallEndsAs P asked function (take (reads * read_room) bytes) (full_cuts reads bytes) held answer
  pub ended : CallEndsRead answer (drop (reads * read_room) bytes)

-- memory was refused to the server
abbrev pub IsWantOfMemory : Result (Unit {0}) ProcessError → Type 0
IsWantOfMemory (Err process.NoMemory) = Unit {0}
IsWantOfMemory (Err process.WriteFault) = Unit {0}
IsWantOfMemory _ = ⊥

-- A request that fits was asked: the server was given its frame in one piece as the whole input and appended `sent`, and the call
-- answers what these bytes give. Where memory is refused to the server the exchange answers that.
pub record LocalExchange {S : Type 0} (A : Answering S) (before after : S) (slave : ℕ) (asked : Asked) (answer : Answer) : Type 0 where
  pub sent : List ℕ
  pub served : Result (Unit {0}) ProcessError
  pub only : IsOfNoRead served
  pub server : server.EndsAs rtu A (frame slave (request_pdu asked)) (length (frame slave (request_pdu asked)) ∷ []) before after sent served
  pub wanting : IsWantOfMemory served → answer ≡ Err NoMemory
  pub held : List ℕ
  pub client : ReadsAll rtu_protocol (slave_seen slave) (function_asked asked) sent held answer

-- What `exchange` promises. A request that doesn't fit isn't asked, and one that fits may find no memory before it is.
pub record ExchangesLocally {S : Type 0} (A : Answering S) (before after : S) (slave : ℕ) (asked : Asked) (answer : Answer) : Type 0 where
  pub too_long : (size : ℕ) → (answer ≡ Err (Transport (transport.RequestTooLong size))) ↔ ((max_pdu < length (request_pdu asked)) × (size ≡ told_size (request_pdu asked)))
  pub unasked : max_pdu < length (request_pdu asked) → after ≡ before
  pub asks : Fits (request_pdu asked) → LocalExchange A before after slave asked answer ⊎ ((answer ≡ Err NoMemory) × (after ≡ before))
