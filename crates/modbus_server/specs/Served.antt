-- What a connection stands for over everything that it was fed, and how a run of it ends.
use Rattle.std.specs.Prelude.{◌≡◌, ◌≢◌, ◌⊎◌, ℕ, ◌<◌, List, [], ◌∷◌, ◌++◌, map, length, All, Result, Ok, Err}
use Rattle.modbus_link.specs.declared.outside.Cut.{Cut}
use Rattle.modbus_link.specs.Outside.{cuts_from}
use Rattle.modbus_link.specs.Reads.{totals}
use Rattle.modbus_frame.specs.Meaning.{Asked}
use Rattle.modbus_frame.specs.declared.fault.Reason.{Reason}
use Rattle.modbus_pdu.specs.Limits.{max_pdu}
use Rattle.modbus_pdu.specs.Message.{Message}
use Rattle.modbus_server.specs.declared.error.ProcessError.{ProcessError}
use Rattle.modbus_server.specs.declared.error.ProcessError.TheVariants.{ReadFault, WriteFault, BytesRemaining, InvalidRequest, ResponseTooLong, TurnLimit, NoMemory}
use Rattle.modbus_server.specs.Framing.{Framing}
use Rattle.modbus_service.specs.Answering.{Answering}
use Rattle.modbus_server.specs.Exchanges.{Exchange, GivesOutcome, Run, ReplyFits, told_reply_size, output, last_reply, asked_of, asks}
use Rattle.modbus_server.specs.Answer.{WantsFor}

-- these bytes are an end of those
abbrev pub IsEndOf : List ℕ → List ℕ → Type 0
IsEndOf rest whole = (front : List ℕ) × (whole ≡ front ++ rest)

-- What a connection has behind it: all bytes that it was fed and the totals after each piece of them, what was written, and the exchanges.
pub record Past (F : Framing) : Type 0 where
  pub bytes : List ℕ
  pub cuts : List ℕ
  pub written : List ℕ
  pub exchanges : List (Exchange F)

abbrev pub past : {F : Framing} → List ℕ → List ℕ → List ℕ → List (Exchange F) → Past F
past bytes cuts written exchanges = record { bytes = bytes; cuts = cuts; written = written; exchanges = exchanges }

-- more messages were answered
abbrev pub with_exchanges : {F : Framing} → Past F → List (Exchange F) → Past F
with_exchanges behind fresh = past behind.bytes behind.cuts behind.written (behind.exchanges ++ fresh)

-- it was fed more in these reads, more was written, and more messages were answered
abbrev pub past_on : {F : Framing} → Past F → List ℕ → List Cut → List ℕ → List (Exchange F) → Past F
past_on behind fed made sent fresh =
    past (behind.bytes ++ fed) (behind.cuts ++ totals (cuts_from (length behind.bytes) made)) (behind.written ++ sent) (behind.exchanges ++ fresh)

-- A connection that has this behind it and holds these bytes. The messages that it took are requests, which were answered in its exchanges
-- with replies that fit. What was written, and then what waits, is the replies to them, and what waits is of the last reply alone.
pub record Stands (F : Framing) (behind : Past F) (held waiting : List ℕ) : Type 0 where
  pub taken : List (Message F.Header)
  pub stands : F.StandsFor behind.bytes behind.cuts held taken
  pub asked : map (asked_of F) taken ≡ map (asks F) behind.exchanges
  pub fit : All (ReplyFits F) behind.exchanges
  pub wrote : behind.written ++ waiting ≡ output F behind.exchanges
  pub late : IsEndOf waiting (last_reply F behind.exchanges)

-- and it took all messages of its bytes
abbrev pub HasTakenAll : (F : Framing) → Past F → List ℕ → List ℕ → Type 0
HasTakenAll F behind held waiting = (s : Stands F behind held waiting) × F.IsAll behind.bytes behind.cuts held s.taken

-- all messages of these bytes were answered in these exchanges
abbrev pub AreAllAnswered : (F : Framing) → List ℕ → List ℕ → List (Exchange F) → Type 0
AreAllAnswered F bytes cuts exchanges =
    (messages : List (Message F.Header)) × (left : List ℕ) × F.IsAll bytes cuts left messages × (map (asked_of F) messages ≡ map (asks F) exchanges)

-- the message that comes after those that were answered in these exchanges is a request
abbrev pub NextIsRequest : (F : Framing) → List ℕ → List ℕ → List (Exchange F) → Type 0
NextIsRequest F bytes cuts exchanges =
    (messages : List (Message F.Header)) × (next : Message F.Header) × F.IsNext bytes cuts messages next × (map (asked_of F) messages ≡ map (asks F) exchanges)
    × (request : Asked) × (F.request_of next.pdu ≡ Ok request)

-- Where a call stops in the bytes that were fed.
pub data Halt : Type 0 where
  -- after all messages, with these bytes left
  remaining : List ℕ → Halt
  -- where the framing has a fault, as it is told
  broken : ProcessError → Halt
  -- at a message whose PDU is no request
  refused : Reason → Halt
  -- at a message whose response has a PDU of that size, above the most
  too_long : ℕ → Halt

-- it stops right after these messages; the service, which had answered them all, was then asked once more or not
abbrev pub Halts : (F : Framing) → {S : Type 0} → Answering S → List ℕ → List ℕ → List (Message F.Header) → S → S → Halt → Type 0
Halts F A bytes cuts before ends now (remaining left) = F.IsAll bytes cuts left before × (now ≡ ends)
Halts F A bytes cuts before ends now (broken fault) = F.IsBroken bytes cuts before fault × (now ≡ ends)
Halts F A bytes cuts before ends now (refused reason) =
    (message : Message F.Header) × F.IsNext bytes cuts before message × (F.request_of message.pdu ≡ Err reason) × (now ≡ ends)
Halts F A bytes cuts before ends now (too_long size) =
    (message : Message F.Header) × F.IsNext bytes cuts before message × (x : Exchange F) × (asked_of F message ≡ asks F x)
    × GivesOutcome F A ends x now × (size ≡ told_reply_size F x) × (max_pdu < size)

-- One run of the service answered exactly the messages before the place where the call stops with replies that fit, and these were
-- written whole.
pub record Served (F : Framing) {S : Type 0} (A : Answering S) (bytes cuts : List ℕ)
    (opening now : S) (written : List ℕ) (halt : Halt) : Type 0 where
  pub before : List (Message F.Header)
  pub exchanges : List (Exchange F)
  pub asked : map (asked_of F) before ≡ map (asks F) exchanges
  pub fit : All (ReplyFits F) exchanges
  pub ends : S
  pub run : Run F A opening exchanges ends
  pub wrote : written ≡ output F exchanges
  pub halts : Halts F A bytes cuts before ends now halt

-- A call stops right after the exchanges that a connection has behind it. They answered exactly the messages before that place with
-- replies that fit, and these were written whole. The service stood at `ends` then, and was asked once more or not.
pub record StopsAfter (F : Framing) {S : Type 0} (A : Answering S) (behind : Past F) (ends now : S) (halt : Halt) : Type 0 where
  pub before : List (Message F.Header)
  pub asked : map (asked_of F) before ≡ map (asks F) behind.exchanges
  pub fit : All (ReplyFits F) behind.exchanges
  pub wrote : behind.written ≡ output F behind.exchanges
  pub halts : Halts F A behind.bytes behind.cuts before ends now halt

-- all exchanges of the run of a call, with that whose response is too long, where it stops at one
abbrev pub all_asked : {F : Framing} {S : Type 0} {A : Answering S} {bytes cuts : List ℕ} {opening now : S} {written : List ℕ} (halt : Halt)
    → Served F A bytes cuts opening now written halt → List (Exchange F)
all_asked (remaining left) s = s.exchanges
all_asked (broken fault) s = s.exchanges
all_asked (refused reason) s = s.exchanges
all_asked (too_long size) s = s.exchanges ++ s.halts.2 ∷ []

-- The sink failed: the service answered the first messages, all of the output was written but a rest of the last reply.
pub record Unwritten (F : Framing) {S : Type 0} (A : Answering S) (bytes cuts : List ℕ) (opening now : S) (written : List ℕ) : Type 0 where
  pub held : List ℕ
  pub waiting : List ℕ
  pub exchanges : List (Exchange F)
  pub run : Run F A opening exchanges now
  pub stood : Stands F (past bytes cuts written exchanges) held waiting

-- Right after these exchanges nothing fails: the next message is a request, or these are all messages, or nothing was fed.
abbrev pub NothingFails : (F : Framing) → List ℕ → List ℕ → List (Exchange F) → Type 0
NothingFails F bytes cuts exchanges = NextIsRequest F bytes cuts exchanges ⊎ (AreAllAnswered F bytes cuts exchanges ⊎ (bytes ≡ []))

-- The message that comes after these took memory.
abbrev pub NextTakesMemory : (F : Framing) → {S : Type 0} → Answering S → List ℕ → List ℕ → List (Message F.Header) → S → S → Type 0
NextTakesMemory F A bytes cuts taken old new = (message : Message F.Header) × F.IsNext bytes cuts taken message × WantsFor F A message old new

-- What memory was wanting for, after these messages: for the next one; or for the room of a read, after all of them; or nothing was fed.
abbrev pub WantsMemory : (F : Framing) → {S : Type 0} → Answering S → List ℕ → List ℕ → List ℕ → List (Message F.Header) → S → S → Type 0
WantsMemory F A bytes cuts held taken old new =
    NextTakesMemory F A bytes cuts taken old new ⊎ ((F.ReadsTakeMemory × F.IsAll bytes cuts held taken × (new ≡ old)) ⊎ ((bytes ≡ []) × (taken ≡ []) × (new ≡ old)))

-- Memory was wanting: the service answered the first messages, and their replies were written whole. It stands where they left it, or
-- where memory refused to it for the next message did. No fault and no refusal comes before what memory was wanting for.
pub record Wanting (F : Framing) {S : Type 0} (A : Answering S) (bytes cuts : List ℕ) (opening now : S) (written : List ℕ) : Type 0 where
  pub held : List ℕ
  pub exchanges : List (Exchange F)
  pub ends : S
  pub run : Run F A opening exchanges ends
  pub stood : Stands F (past bytes cuts written exchanges) held []
  pub cause : WantsMemory F A bytes cuts held stood.taken ends now

-- memory was wanting right after the exchanges that a connection has behind it
abbrev pub WantsAfter : (F : Framing) → {S : Type 0} → Answering S → Past F → S → S → Type 0
WantsAfter F A behind ends now =
    (held : List ℕ) × (s : Stands F behind held []) × WantsMemory F A behind.bytes behind.cuts held s.taken ends now

-- How a call ended right after the exchanges that a connection has behind it, where the service stood at `ends` then. Where the sink
-- failed, a rest of the last reply was not written.
abbrev pub EndsAfter : (F : Framing) → {S : Type 0} → Answering S → Past F → S → S → Result (Unit {0}) ProcessError → Type 0
EndsAfter F A behind ends now (Ok done) = StopsAfter F A behind ends now (remaining [])
EndsAfter F A behind ends now (Err BytesRemaining) = (left : List ℕ) × (left ≢ []) × StopsAfter F A behind ends now (remaining left)
EndsAfter F A behind ends now (Err ReadFault) = (left : List ℕ) × StopsAfter F A behind ends now (remaining left)
EndsAfter F A behind ends now (Err TurnLimit) = (left : List ℕ) × StopsAfter F A behind ends now (remaining left)
EndsAfter F A behind ends now (Err (InvalidRequest reason)) = StopsAfter F A behind ends now (refused reason)
EndsAfter F A behind ends now (Err (ResponseTooLong size)) = StopsAfter F A behind ends now (too_long size)
EndsAfter F A behind ends now (Err WriteFault) = (held : List ℕ) × (waiting : List ℕ) × Stands F behind held waiting × (now ≡ ends)
EndsAfter F A behind ends now (Err NoMemory) = WantsAfter F A behind ends now
EndsAfter F A behind ends now (Err fault) = StopsAfter F A behind ends now (broken fault)

-- how a call ended, over all that was fed and written
abbrev pub EndsAs : (F : Framing) → {S : Type 0} → Answering S → List ℕ → List ℕ → S → S → List ℕ → Result (Unit {0}) ProcessError → Type 0
EndsAs F A bytes cuts opening now written (Ok done) = Served F A bytes cuts opening now written (remaining [])
EndsAs F A bytes cuts opening now written (Err BytesRemaining) = (left : List ℕ) × (left ≢ []) × Served F A bytes cuts opening now written (remaining left)
EndsAs F A bytes cuts opening now written (Err ReadFault) = (left : List ℕ) × Served F A bytes cuts opening now written (remaining left)
EndsAs F A bytes cuts opening now written (Err TurnLimit) = (left : List ℕ) × Served F A bytes cuts opening now written (remaining left)
EndsAs F A bytes cuts opening now written (Err (InvalidRequest reason)) = Served F A bytes cuts opening now written (refused reason)
EndsAs F A bytes cuts opening now written (Err (ResponseTooLong size)) = Served F A bytes cuts opening now written (too_long size)
EndsAs F A bytes cuts opening now written (Err WriteFault) = Unwritten F A bytes cuts opening now written
EndsAs F A bytes cuts opening now written (Err NoMemory) = Wanting F A bytes cuts opening now written
EndsAs F A bytes cuts opening now written (Err fault) = Served F A bytes cuts opening now written (broken fault)
