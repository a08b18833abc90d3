-- What the drivers of a connection promise.
use Rattle.std.specs.Prelude.{◌≡◌, ◌≢◌, ◌⊎◌, ℕ, ◌<◌, ◌≤◌, List, [], ◌∷◌, ◌++◌, length, IsTrue, Bool, true, false, Result, Ok, Err}
use Rattle.modbus_link.specs.declared.outside.Cut.{Cut}
use Rattle.modbus_link.specs.Outside.{Rose, cuts_from}
use Rattle.modbus_pdu.specs.Message.{Message}
use Rattle.modbus_link.specs.Passes.{Passes}
use Rattle.modbus_link.specs.Reads.{totals, HaveRooms, Spending, all_turns, fewer_turns, some_turns, Spends}
use Rattle.modbus_server.specs.declared.error.ProcessError.{ProcessError}
use Rattle.modbus_server.specs.declared.error.ProcessError.TheVariants.{ReadFault, WriteFault, BytesRemaining, TurnLimit, NoMemory}
use Rattle.modbus_server.specs.declared.error.Step.{Step}
use Rattle.modbus_server.specs.declared.error.Step.TheVariants.{Answered, Silent, MoreRead, Hungry, Ended}
use Rattle.modbus_service.specs.Outcome.{silence}
use Rattle.modbus_server.specs.Framing.{Framing}
use Rattle.modbus_service.specs.Answering.{Answering}
use Rattle.modbus_server.specs.Exchanges.{Exchange, Run}
use Rattle.modbus_server.specs.Served.{Past, past_on, Stands, HasTakenAll, AreAllAnswered, NothingFails, NextTakesMemory, EndsAfter, EndsAs}
use Rattle.modbus_server.specs.State.{State}
use Rattle.modbus_server.specs.Moment.{Moment}
use Rattle.modbus_server.specs.Transfer.{EndsInput}

-- the service was asked once where the step answered a message, or could not write the reply to it, and in no other exchange
abbrev pub AsksInStep : (F : Framing) → {S : Type 0} → List (Exchange F) → S → S → Result Step ProcessError → Type 0
AsksInStep F fresh ends after (Ok Answered) = (x : Exchange F) × (fresh ≡ x ∷ []) × (x.outcome ≢ silence) × (after ≡ ends)
AsksInStep F fresh ends after (Ok Silent) = (x : Exchange F) × (fresh ≡ x ∷ []) × (x.outcome ≡ silence) × (after ≡ ends)
AsksInStep F fresh ends after (Ok _) = (fresh ≡ []) × (after ≡ ends)
AsksInStep F fresh ends after (Err WriteFault) = (x : Exchange F) × (fresh ≡ x ∷ [])
AsksInStep F fresh ends after (Err _) = fresh ≡ []

-- What a step left, with this behind it: what it was fed, what was written and the exchange in the step too. An error comes right after
-- the exchanges.
abbrev pub StepsAs : (F : Framing) → {S : Type 0} → Answering S → Past F → State → S → S → Result Step ProcessError → Type 0
StepsAs F A behind new ends now (Ok Hungry) = HasTakenAll F behind new.held new.waiting
StepsAs F A behind new ends now (Ok Ended) = HasTakenAll F behind new.held new.waiting × (new.held ≡ [])
StepsAs F A behind new ends now (Ok _) = Stands F behind new.held new.waiting
StepsAs F A behind new ends now (Err error) = EndsAfter F A behind ends now (Err error)

-- A step reads, or is hungry, only after all messages of the bytes that it had. Memory refused to it stands in for no fault or refusal.
abbrev pub ReadsLast : (F : Framing) → List ℕ → List ℕ → List (Exchange F) → Result Step ProcessError → Type 0
ReadsLast F bytes cuts exchanges (Ok MoreRead) = AreAllAnswered F bytes cuts exchanges
ReadsLast F bytes cuts exchanges (Ok Hungry) = AreAllAnswered F bytes cuts exchanges
ReadsLast F bytes cuts exchanges (Ok Ended) = AreAllAnswered F bytes cuts exchanges
ReadsLast F bytes cuts exchanges (Err ReadFault) = AreAllAnswered F bytes cuts exchanges
ReadsLast F bytes cuts exchanges (Err BytesRemaining) = AreAllAnswered F bytes cuts exchanges
ReadsLast F bytes cuts exchanges (Err NoMemory) = NothingFails F bytes cuts exchanges
ReadsLast F bytes cuts exchanges _ = Unit {0}

-- a step tells what only a read can tell where it may read, and no limit of turns
abbrev pub EndsIfMay : Bool → ProcessError → Type 0
EndsIfMay may_read ReadFault = may_read ≡ true
EndsIfMay may_read BytesRemaining = may_read ≡ true
EndsIfMay may_read TurnLimit = ⊥
EndsIfMay may_read _ = Unit {0}

-- the reads that gave bytes, and what is held and waits after a step that may read or not
abbrev pub LeavesAs : (F : Framing) → {S : Type 0} → List Cut → Bool → State → State → S → S → Result Step ProcessError → Type 0
LeavesAs F made may_read old new before after (Ok Answered) =
    (made ≡ []) × (length new.held < length old.held) × (new.waiting ≡ []) × (new.is_open ≡ true)
LeavesAs F made may_read old new before after (Ok Silent) =
    (made ≡ []) × (length new.held < length old.held) × (new.waiting ≡ []) × (new.is_open ≡ true)
LeavesAs F made may_read old new before after (Ok MoreRead) =
    (length made ≡ 1) × (length new.held ≤ F.most) × (new.waiting ≡ []) × (new.is_open ≡ true) × (may_read ≡ true) × (after ≡ before)
LeavesAs F made may_read old new before after (Ok Hungry) =
    (made ≡ []) × F.Waits new.held × (new.waiting ≡ []) × (new.is_open ≡ true) × (may_read ≡ false) × (after ≡ before)
LeavesAs F made may_read old new before after (Ok Ended) =
    (made ≡ []) × (new.held ≡ []) × (new.waiting ≡ []) × (new.is_open ≡ false) × (may_read ≡ true) × (after ≡ before)
LeavesAs F made may_read old new before after (Err error) = (made ≡ []) × (new.is_open ≡ false) × EndsIfMay may_read error

-- What one step promises. It holds for every source and sink: a step feeds some bytes to the connection and takes some off it, and
-- these are what a source and a sink that tell their bytes tell. A step that tells an error answers no message, but where the sink failed.
pub record Stepped (F : Framing) {S : Type 0} (A : Answering S) (old new : State) (before after : Moment S) (may_read : Bool)
    (result : Result Step ProcessError) : Type 0 where
  pub fed : List ℕ
  pub made : List Cut
  pub sent : List ℕ
  pub passes : Passes before.outside after.outside fed made sent
  -- the service went on by these exchanges
  pub fresh : List (Exchange F)
  pub ends : S
  pub run : Run F A before.service fresh ends
  pub asked : AsksInStep F fresh ends after.service result
  -- for all that the connection may have behind it
  pub stands : (behind : Past F) → Stands F behind old.held [] → StepsAs F A (past_on behind fed made sent fresh) new ends after.service result
  pub last : (behind : Past F) → Stands F behind old.held [] → ReadsLast F behind.bytes behind.cuts behind.exchanges result
  pub rooms : (behind : Past F) → Stands F behind old.held []
      → HaveRooms F.HasRoom (behind.bytes ++ fed) (length behind.bytes) (cuts_from (length behind.bytes) made)
  pub leaves : LeavesAs F made may_read old new before.service after.service result
  -- memory is wanting only for the next message, or for the room of a read
  pub memory : result ≡ Err NoMemory → (bytes cuts : List ℕ) (taken : List (Message F.Header)) → F.StandsFor bytes cuts old.held taken
      → NextTakesMemory F A bytes cuts taken before.service after.service ⊎ (F.ReadsTakeMemory × (after.service ≡ before.service))
  pub ended : IsTrue before.outside.input.told → EndsInput result after.outside.input.left
  pub idle : may_read ≡ false → after.outside.input ≡ before.outside.input
  pub read_fault : result ≡ Err ReadFault → Rose before.outside.input.faults after.outside.input.faults
  pub write_fault : result ≡ Err WriteFault → Rose before.outside.output.faults after.outside.output.faults

-- a call ends with the input
abbrev pub EndsRead : Result (Unit {0}) ProcessError → List ℕ → Type 0
EndsRead (Ok done) left = left ≡ []
EndsRead (Err BytesRemaining) left = left ≡ []
EndsRead (Err _) left = Unit {0}

-- how many of the turns were spent
abbrev pub spending_of : Result (Unit {0}) ProcessError → Spending
spending_of (Ok done) = fewer_turns
spending_of (Err ReadFault) = fewer_turns
spending_of (Err BytesRemaining) = fewer_turns
spending_of (Err TurnLimit) = all_turns
spending_of (Err _) = some_turns

-- What a call to the end promises, of one run, for every source and sink.
pub record Ran (F : Framing) {S : Type 0} (A : Answering S) (turns : ℕ) (before after : Moment S) (result : Result (Unit {0}) ProcessError) : Type 0 where
  pub fed : List ℕ
  pub made : List Cut
  pub sent : List ℕ
  pub passes : Passes before.outside after.outside fed made sent
  pub served : EndsAs F A fed (totals made) before.service after.service sent result
  pub rooms : HaveRooms F.HasRoom fed 0 made
  pub spends : Spends (spending_of result) (length made) turns
  pub ended : IsTrue before.outside.input.told → EndsRead result after.outside.input.left
  pub read_fault : result ≡ Err ReadFault → Rose before.outside.input.faults after.outside.input.faults
  pub write_fault : result ≡ Err WriteFault → Rose before.outside.output.faults after.outside.output.faults
