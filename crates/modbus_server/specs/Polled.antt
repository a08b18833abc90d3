-- What the polled driver of a connection promises.
use Rattle.std.specs.Prelude.{◌≡◌, ◌≢◌, ◌⊎◌, ℕ, ◌+◌, ◌-◌, ◌<◌, ◌≤◌, Option, Some, None, List, [], ◌++◌, length, Bool, true, IsTrue, Result, Ok, Err}
use Rattle.modbus_link.specs.declared.polled.Polled.{Polled}
use Rattle.modbus_link.specs.declared.polled.Polled.TheVariants.{Ready, Pending}
use Rattle.modbus_link.specs.declared.outside.Cut.{Cut}
use Rattle.modbus_link.specs.Outside.{Input, Outside, Rose, Advances, IsFront, bytes_read, cuts_made, cuts_from, RisesTo}
use Rattle.modbus_link.specs.Passes.{Passes}
use Rattle.modbus_link.specs.Polled.{is_pending}
use Rattle.modbus_link.specs.Reads.{totals, HaveRooms, Spends}
use Rattle.modbus_server.specs.declared.error.ProcessError.{ProcessError}
use Rattle.modbus_server.specs.declared.error.ProcessError.TheVariants.{ReadFault, WriteFault, NoMemory}
use Rattle.modbus_server.specs.declared.error.Step.{Step}
use Rattle.modbus_server.specs.declared.error.PolledTurn.{PolledTurn}
use Rattle.modbus_server.specs.declared.error.PolledTurn.TheVariants.{Waiting, Spent, Over}
use Rattle.modbus_server.specs.Framing.{Framing}
use Rattle.modbus_service.specs.Answering.{Answering}
use Rattle.modbus_server.specs.Exchanges.{Exchange, Run}
use Rattle.modbus_server.specs.Served.{Past, past, Stands, EndsAfter}
use Rattle.modbus_server.specs.Moment.{Moment}
use Rattle.modbus_server.specs.State.{State}
use Rattle.modbus_server.specs.Transfer.{WritesOnce, ReadsOnce}
use Rattle.modbus_server.specs.Step.{Stepped, EndsRead, spending_of, Ran}
use Rattle.modbus_server.specs.Complete.{IsCleanLine, NextReplyFits, Completes}

-- what a polled server keeps
pub record PolledProcessState : Type 0 where
  pub connection : State
  -- how many reads may still give bytes
  pub left : ℕ

abbrev pub polled : State → ℕ → PolledProcessState
polled connection left = record { connection = connection; left = left }

-- all that waited was written, or some of it
abbrev pub PollWrites : State → State → Result (Polled Step) ProcessError → Type 0
PollWrites old new (Ok (Ready step)) = WritesOnce old new (Ok step)
PollWrites old new (Ok Pending) = (new ≡ record old { waiting = new.waiting }) × (new.waiting ≢ [])
PollWrites old new (Err error) = WritesOnce old new (Err error)

-- a read found the link not ready: it gave nothing, and the connection has more memory at most
pub record ReadsNothing (from to : Input) (old new : State) : Type 0 where
  pub source : Advances from to
  pub read : IsTrue from.told → bytes_read from to ≡ []
  pub cuts : IsTrue from.told → cuts_made from to ≡ []
  pub keeps : new ≡ record old { free = new.free }

-- one read was made, or the link was not ready
abbrev pub PollReads : Framing → Input → Input → State → State → Result (Polled Step) ProcessError → Type 0
PollReads F from to old new (Ok (Ready step)) = ReadsOnce F from to old new (Ok step)
PollReads F from to old new (Ok Pending) = ReadsNothing from to old new
PollReads F from to old new (Err error) = ReadsOnce F from to old new (Err error)

-- it can't go on with no more of the link: some of a reply waits, or the held bytes have no message
abbrev pub Rests : Framing → State → Type 0
Rests F state = (state.waiting ≢ []) ⊎ F.Waits state.held

-- A step found the link not ready: it read nothing, and wrote a front of a reply or nothing.
pub record Paused (F : Framing) {S : Type 0} (A : Answering S) (old new : State) (before after : Moment S) : Type 0 where
  pub sent : List ℕ
  pub passes : Passes before.outside after.outside [] [] sent
  pub fresh : List (Exchange F)
  pub run : Run F A before.service fresh after.service
  pub stands : (behind : Past F) → Stands F behind old.held []
      → Stands F (past behind.bytes behind.cuts (behind.written ++ sent) (behind.exchanges ++ fresh)) new.held new.waiting
  pub is_open : new.is_open ≡ true
  pub rests : Rests F new
  -- it asked the service about one message at most
  pub few : length fresh ≤ 1

-- one step, or as much of it as the link was ready for
abbrev pub PollSteps : (F : Framing) → {S : Type 0} → Answering S → State → State → Moment S → Moment S → Bool → Result (Polled Step) ProcessError → Type 0
PollSteps F A old new before after may_read (Ok (Ready step)) = Stepped F A old new before after may_read (Ok step)
PollSteps F A old new before after may_read (Ok Pending) = Paused F A old new before after
PollSteps F A old new before after may_read (Err error) = Stepped F A old new before after may_read (Err error)

-- What a polled server has behind it, over all its polls: how many turns it has in all, the bytes that it was fed, the totals and rooms of
-- the reads that gave them, what was written, and the exchanges.
pub record PolledPast (F : Framing) : Type 0 where
  pub turns : ℕ
  pub bytes : List ℕ
  pub made : List Cut
  pub written : List ℕ
  pub exchanges : List (Exchange F)

abbrev pub polled_past : {F : Framing} → ℕ → List ℕ → List Cut → List ℕ → List (Exchange F) → PolledPast F
polled_past turns bytes made written exchanges = record { turns = turns; bytes = bytes; made = made; written = written; exchanges = exchanges }

-- it was fed more in these reads, more was written, and more messages were answered
abbrev pub polled_on : {F : Framing} → PolledPast F → List ℕ → List Cut → List ℕ → List (Exchange F) → PolledPast F
polled_on behind fed made sent fresh =
    polled_past behind.turns (behind.bytes ++ fed) (behind.made ++ cuts_from (length behind.bytes) made) (behind.written ++ sent) (behind.exchanges ++ fresh)

-- what its connection has behind it
abbrev pub past_of : {F : Framing} → PolledPast F → Past F
past_of behind = past behind.bytes (totals behind.made) behind.written behind.exchanges

-- what a polled server stands for that has this behind it
pub record PollStands (F : Framing) (behind : PolledPast F) (process : PolledProcessState) : Type 0 where
  pub stands : Stands F (past_of behind) process.connection.held process.connection.waiting
  pub rises : RisesTo 0 behind.made (length behind.bytes)
  pub rooms : HaveRooms F.HasRoom behind.bytes 0 behind.made
  pub spends : length behind.made + process.left ≡ behind.turns

-- how a polled server ended that has this behind it, where the service stood at `ends` right after the exchanges
pub record PollEnds (F : Framing) {S : Type 0} (A : Answering S) (behind : PolledPast F) (ends now : S) (result : Result (Unit {0}) ProcessError) : Type 0 where
  pub served : EndsAfter F A (past_of behind) ends now result
  pub rooms : HaveRooms F.HasRoom behind.bytes 0 behind.made
  pub spends : Spends (spending_of result) (length behind.made) behind.turns

-- what it is after a poll, and where its service stands
abbrev pub PollsAs : (F : Framing) → {S : Type 0} → Answering S → PolledPast F → S → S → PolledProcessState → Polled (Result (Unit {0}) ProcessError) → Type 0
PollsAs F A behind ends now process Pending = PollStands F behind process × (now ≡ ends)
PollsAs F A behind ends now process (Ready result) = PollEnds F A behind ends now result

-- it ends with the input
abbrev pub EndsPolled : Polled (Result (Unit {0}) ProcessError) → List ℕ → Type 0
EndsPolled Pending left = Unit {0}
EndsPolled (Ready result) left = EndsRead result left

-- What one poll promises, wherever it stops: it read and wrote these bytes, the service went on by these exchanges, and for all that the
-- server stood for before it, it stands for that and these after it, or ended so.
pub record Polls (F : Framing) {S : Type 0} (A : Answering S) (old new : PolledProcessState) (before after : Moment S)
    (result : Polled (Result (Unit {0}) ProcessError)) : Type 0 where
  pub fed : List ℕ
  pub made : List Cut
  pub sent : List ℕ
  pub passes : Passes before.outside after.outside fed made sent
  pub fresh : List (Exchange F)
  pub ends : S
  pub run : Run F A before.service fresh ends
  pub goes_on : (behind : PolledPast F) → PollStands F behind old → PollsAs F A (polled_on behind fed made sent fresh) ends after.service new result
  pub is_open : new.connection.is_open ≡ is_pending result
  -- it reads only once all that waited is written
  pub writes_first : fed ≢ [] → IsFront old.connection.waiting sent
  pub ended : IsTrue before.outside.input.told → EndsPolled result after.outside.input.left
  pub read_fault : result ≡ Ready (Err ReadFault) → Rose before.outside.input.faults after.outside.input.faults
  pub write_fault : result ≡ Ready (Err WriteFault) → Rose before.outside.output.faults after.outside.output.faults

-- What a poll promises that stops only at the link: where it is not over, it can't go on with no more of the link.
pub record PolledTo (F : Framing) {S : Type 0} (A : Answering S) (old new : PolledProcessState) (before after : Moment S)
    (result : Polled (Result (Unit {0}) ProcessError)) : Type 0 where
  pub polls : Polls F A old new before after result
  pub rests : result ≡ Pending → Rests F new.connection

-- a turn as a poll: one whose messages are used up is not over
abbrev pub poll_of : PolledTurn → Polled (Result (Unit {0}) ProcessError)
poll_of Waiting = Pending
poll_of Spent = Pending
poll_of (Over result) = Ready result

-- of a limit, where there is one, and how many messages were taken: these are no more
abbrev pub IsWithin : Option ℕ → ℕ → Type 0
IsWithin None count = Unit {0}
IsWithin (Some limit) count = count ≤ limit

-- there is a limit, and as many messages were taken
abbrev pub IsLimit : Option ℕ → ℕ → Type 0
IsLimit None count = ⊥
IsLimit (Some limit) count = count ≡ limit

-- What a turn promises that takes so many messages at most, where there is a limit, each in one exchange with the service. It stops at the
-- link, which it can't go on without; or where the messages are used up, just these; or it is over.
pub record TurnsTo (F : Framing) {S : Type 0} (A : Answering S) (limit : Option ℕ) (old new : PolledProcessState) (before after : Moment S)
    (turn : PolledTurn) : Type 0 where
  pub polls : Polls F A old new before after (poll_of turn)
  pub few : IsWithin limit (length polls.fresh)
  pub spent : turn ≡ Spent → IsLimit limit (length polls.fresh)
  pub rests : turn ≡ Waiting → Rests F new.connection

-- What polls did that came to an end, over the link of all of them, which was so at first, whatever else the service was asked between them:
-- all that a call to the end does, but that these exchanges are not a run of the service.
pub record PolledRan (F : Framing) {S : Type 0} (A : Answering S) (behind : PolledPast F) (ends now : S) (first last : Outside) (result : Result (Unit {0}) ProcessError) : Type 0 where
  pub passes : Passes first last behind.bytes behind.made behind.written
  pub over : PollEnds F A behind ends now result
  pub ended : IsTrue first.input.told → EndsRead result last.input.left
  pub read_fault : result ≡ Err ReadFault → Rose first.input.faults last.input.faults
  pub write_fault : result ≡ Err WriteFault → Rose first.output.faults last.output.faults

-- a clean line of fewer bytes than there are turns is served to its end so
abbrev pub CompletesAfter : (F : Framing) → {S : Type 0} → Answering S → PolledPast F → S → Outside → Outside → Result (Unit {0}) ProcessError → Type 0
CompletesAfter F A behind ends first last result = IsTrue first.input.told
    → (clean : IsCleanLine F first.input.left) → NextReplyFits F A behind.exchanges ends clean.messages
    → length first.input.left < behind.turns → (Rose first.input.faults last.input.faults → ⊥)
    → (Rose first.output.faults last.output.faults → ⊥) → (result ≡ Ok tt) ⊎ (result ≡ Err NoMemory)

-- A poll is not over only where the link's count of polls that found it not ready rose, and this count never falls.
pub record PollWaits (idle idle' : ℕ) (result : Polled (Result (Unit {0}) ProcessError)) : Type 0 where
  pub waited : result ≡ Pending → Rose idle idle'
  pub later : idle ≤ idle'

-- the same of a turn
pub record TurnWaits (idle idle' : ℕ) (turn : PolledTurn) : Type 0 where
  pub waited : turn ≡ Waiting → Rose idle idle'
  pub later : idle ≤ idle'

-- a message may be taken: there is no limit, or some are left
abbrev pub AllowsMore : Option ℕ → Type 0
AllowsMore None = Unit {0}
AllowsMore (Some left) = 0 < left

-- how many messages are left once one more was taken
abbrev pub one_fewer : Option ℕ → Option ℕ
one_fewer None = None
one_fewer (Some left) = Some (left - 1)

-- the promises of a call to the end, where a poll ended
abbrev pub RanIfReady : (F : Framing) → {S : Type 0} → Answering S → ℕ → Moment S → Moment S → Polled (Result (Unit {0}) ProcessError) → Type 0
RanIfReady F A turns before after Pending = Unit {0}
RanIfReady F A turns before after (Ready result) = Ran F A turns before after result × Completes F A turns before after result

-- A poll that ends does, with all polls before it, what a call to the end does over the link of all polls, and a service that was asked in
-- them alone, which were so at first.
abbrev pub RunsWhole : (F : Framing) → {S : Type 0} → Answering S → PolledProcessState → Moment S → Moment S → Polled (Result (Unit {0}) ProcessError) → Type 0
RunsWhole F {S} A old before after result = (behind : PolledPast F) (first : Moment S) → PollStands F behind old
    → Run F A first.service behind.exchanges before.service → Passes first.outside before.outside behind.bytes behind.made behind.written
    → RanIfReady F A behind.turns first after result
