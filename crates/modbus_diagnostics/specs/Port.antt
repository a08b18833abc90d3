-- A port of a serial line, which counts what it hears and answers for its counters (Modbus Application Protocol V1.1b3, section 6.8).
use Rattle.std.specs.Prelude.{◌≡◌, ℕ, Bool, true, false, List, [], ◌∷◌, ◌++◌, All, Option, Some, None, Result, Ok, Err, ⊤, if◌then◌else◌}
use Rattle.modbus_frame.specs.Meaning.{Asked}
use Rattle.modbus_frame.specs.declared.response.Response.{Response}
use Rattle.modbus_service.specs.Answering.{Answering}
use Rattle.modbus_service.specs.Exchange.{Exchange, Run}
use Rattle.modbus_service.specs.Outcome.{Outcome, silence}
use Rattle.modbus_service.specs.Units.{LineUnits, Checks, units_answering}
use Rattle.modbus_service.specs.declared.only_unit.OnlyUnit.{OnlyUnit}
use Rattle.modbus_service.specs.declared.service.ServiceError.{ServiceError}
use Rattle.modbus_service.specs.declared.service.ServiceError.TheVariants.{Exception, NoMemory}
use Rattle.modbus_field.specs.LineAnswers.{addresses_of}
use Rattle.modbus_diagnostics.specs.declared.counters.Ended.{Ended}
use Rattle.modbus_diagnostics.specs.declared.counters.Ended.TheVariants.{Well, Refused, Silent}
use Rattle.modbus_diagnostics.specs.declared.heard.Heard.{Heard}
use Rattle.modbus_diagnostics.specs.declared.heard.Heard.TheVariants.{Noise, Another, Broadcast, Own, Asks, Monitored, MonitoredBroadcast, MonitoredAnother}
use Rattle.modbus_diagnostics.specs.declared.query.Query.{Query}
use Rattle.modbus_diagnostics.specs.declared.query.Query.TheVariants.{Restart}
use Rattle.modbus_diagnostics.specs.declared.port.PortError.{PortError}
use Rattle.modbus_diagnostics.specs.declared.port.PortError.TheVariants.{BadUnits, NoRoom}
use Rattle.modbus_diagnostics.specs.Replies.{query_reply}
use Rattle.modbus_diagnostics.specs.Heard.{heard_as, is_passed}
use Rattle.modbus_diagnostics.specs.Counters.{Note, zeros, outcome_counted, counters_of, AreSinceCleared}
use Rattle.modbus_diagnostics.specs.Journal.{JournalState, empty_journal, journal_after, journal_with, journal_of}
use Rattle.modbus_diagnostics.specs.PortUnits.{AllDid}

-- a port: the addresses of its units, these, and what it keeps of its line
pub record PortState (S : Type 0) : Type 0 where
  pub units : List ℕ
  pub line : LineUnits S
  pub journal : JournalState

-- a port that has heard nothing, of these units; it has no exception for another address
abbrev pub port_over : {S : Type 0} → List (OnlyUnit S) → PortState S
port_over units = record { units = addresses_of units; line = record { units = units; absent = None }; journal = empty_journal }

-- a port counts for the addresses of its units, and these are silent to every other
abbrev pub IsQuiet : {S : Type 0} → List ℕ → LineUnits S → Type 0
IsQuiet units line = (units ≡ addresses_of line.units) × (line.absent ≡ None)

-- A port was made of units, where their addresses are those of single devices and distinct; else it is told which is not.
abbrev pub MakesPort : {S : Type 0} → List (OnlyUnit S) → Result (PortState S) PortError → Type 0
MakesPort units (Ok port) = (port ≡ port_over units) × Checks units (Ok tt)
MakesPort units (Err (BadUnits error)) = Checks units (Err error)
MakesPort units (Err NoRoom) = ⊤

-- how a message ended that was told so; untold where memory was refused
abbrev pub told_end : Result (Option Response) ServiceError → Option Ended
told_end (Ok None) = Some Silent
told_end (Ok (Some response)) = Some Well
told_end (Err (Exception code)) = Some (Refused code)
told_end (Err NoMemory) = None

-- What a port does with what it heard: nothing with noise, nor with what it only monitors; what asks the port itself it answers, and its
-- units do not hear of it; all else its units answer.
abbrev pub Answers : {L : Type 0} → Answering L → JournalState → Heard → L → ℕ → Asked → Outcome → L → Type 0
Answers A j Noise old slave request outcome new = (outcome ≡ silence) × (new ≡ old)
Answers A j Monitored old slave request outcome new = (outcome ≡ silence) × (new ≡ old)
Answers A j MonitoredBroadcast old slave request outcome new = (outcome ≡ silence) × (new ≡ old)
Answers A j MonitoredAnother old slave request outcome new = (outcome ≡ silence) × (new ≡ old)
Answers A j (Asks query) old slave request outcome new = (outcome ≡ query_reply (journal_with j (Asks query)) request query) × (new ≡ old)
Answers A j Broadcast old slave request outcome new = A.gives old 0 request outcome new
Answers A j _ old slave request outcome new = A.gives old slave request outcome new

-- where memory is refused, for an answer of the port's own or to its units
abbrev pub Wants : {L : Type 0} → Answering L → Heard → L → ℕ → Asked → L → Type 0
Wants A (Asks query) old slave request new = new ≡ old
Wants A Broadcast old slave request new = A.wants old 0 request new
Wants A Own old slave request new = A.wants old slave request new
Wants A Another old slave request new = A.wants old slave request new
Wants A _ old slave request new = ⊥

-- a port with this journal, of what it heard
abbrev pub hearing : {L : Type 0} → Answering L → JournalState → Heard → Answering L
hearing A j h = record { gives = Answers A j h; wants = Wants A h }

-- How what was heard ended: a message for all as each of the units did it, all else by its outcome.
abbrev pub Ends : {S : Type 0} → Answering S → Heard → Asked → LineUnits S → LineUnits S → Outcome → Ended → Type 0
Ends A Broadcast request old new outcome end = AllDid A request old.units new.units end
Ends A _ request old new outcome end = end ≡ outcome_counted outcome

-- how a message for all ended that is told so; untold where memory was refused
abbrev pub TellsAllEnd : {S : Type 0} → Answering S → Asked → LineUnits S → LineUnits S → Result (Option Response) ServiceError → Option Ended → Type 0
TellsAllEnd A request old new (Err NoMemory) end = end ≡ None
TellsAllEnd A request old new told None = ⊥
TellsAllEnd A request old new told (Some end) = AllDid A request old.units new.units end

-- how what was heard ended that is told so
abbrev pub TellsEnd : {S : Type 0} → Answering S → Heard → Asked → LineUnits S → LineUnits S → Result (Option Response) ServiceError → Option Ended → Type 0
TellsEnd A Broadcast request old new told end = TellsAllEnd A request old new told end
TellsEnd A _ request old new told end = end ≡ told_end told

-- the journal after what was heard ended, or memory was refused for it
abbrev pub noted_when : JournalState → Heard → Option Ended → JournalState
noted_when j h None = j
noted_when j h (Some end) = journal_after j h end

-- what a port heard and did with one message, and what it noted of it
abbrev pub port_notes : {S : Type 0} → Answering S → PortState S → ℕ → Asked → Outcome → Note → PortState S → Type 0
port_notes A old slave request outcome note new =
    (new.units ≡ old.units)
    × (note.heard ≡ heard_as old.units old.journal.listens_only slave request)
    × (new.journal ≡ journal_after old.journal note.heard note.end)
    × Answers (units_answering A) old.journal note.heard old.line slave request outcome new.line
    × Ends A note.heard request old.line new.line outcome note.end

abbrev pub port_gives : {S : Type 0} → Answering S → PortState S → ℕ → Asked → Outcome → PortState S → Type 0
port_gives A old slave request outcome new = (note : Note) × port_notes A old slave request outcome note new

-- where memory is refused nothing is noted
abbrev pub port_wants : {S : Type 0} → Answering S → PortState S → ℕ → Asked → PortState S → Type 0
port_wants A old slave request new =
    (new.units ≡ old.units) × (new.journal ≡ old.journal)
    × Wants (units_answering A) (heard_as old.units old.journal.listens_only slave request) old.line slave request new.line

abbrev pub port_answering : {S : Type 0} → Answering S → Answering (PortState S)
port_answering A = record { gives = port_gives A; wants = port_wants A }

-- a run of a port over exchanges, with what it noted of each
abbrev pub NotedRun : {Header S : Type 0} → (Header → ℕ) → Answering S → PortState S → List (Exchange Header) → List Note → PortState S → Type 0
NotedRun slave A start [] [] last = last ≡ start
NotedRun slave A start [] (n ∷ notes) last = ⊥
NotedRun slave A start (x ∷ xs) [] last = ⊥
NotedRun {S = S} slave A start (x ∷ xs) (n ∷ notes) last =
    (next : PortState S) × port_notes A start (slave x.header) x.request x.outcome n next × NotedRun slave A next xs notes last

-- each run of a port is one of which it took notes, and its journal is that of these notes
abbrev pub RunsAreNoted : (Header : Type 0) → {S : Type 0} → Answering S → Type 0
RunsAreNoted Header {S} A =
    (slave : Header → ℕ) (start last : PortState S) (xs : List (Exchange Header))
    → Run slave (port_answering A) start xs last → (notes : List Note) × NotedRun slave A start xs notes last

abbrev pub JournalIsOfNotes : (Header : Type 0) → {S : Type 0} → Answering S → Type 0
JournalIsOfNotes Header {S} A =
    (slave : Header → ℕ) (start last : PortState S) (xs : List (Exchange Header)) (notes : List Note)
    → NotedRun slave A start xs notes last → last.journal ≡ journal_of start.journal notes

-- a port that had heard nothing has counted what there is to count since it was cleared
abbrev pub CountsAll : (Header : Type 0) → {S : Type 0} → Answering S → Type 0
CountsAll Header {S} A =
    (slave : Header → ℕ) (start last : PortState S) (xs : List (Exchange Header)) (notes since : List Note)
    → NotedRun slave A start xs notes last → start.journal.counters ≡ zeros → AreSinceCleared notes since
    → last.journal.counters ≡ counters_of since

-- and what asks the port itself is answered of what it kept so far, with this message
abbrev pub TellsNotes : (Header : Type 0) → {S : Type 0} → Answering S → Type 0
TellsNotes Header {S} A =
    (slave : Header → ℕ) (start last : PortState S) (xs : List (Exchange Header)) (notes : List Note) (x : Exchange Header) (query : Query) (n : Note)
    → NotedRun slave A start (xs ++ x ∷ []) (notes ++ n ∷ []) last → n.heard ≡ Asks query
    → x.outcome ≡ query_reply (journal_with (journal_of start.journal notes) (Asks query)) x.request query

-- the exchanges that a port does not keep from its units, in order
abbrev pub exchanges_passed : {Header : Type 0} → List (Exchange Header) → List Note → List (Exchange Header)
exchanges_passed [] notes = []
exchanges_passed (x ∷ xs) [] = []
exchanges_passed (x ∷ xs) (n ∷ notes) = if is_passed n.heard then x ∷ exchanges_passed xs notes else exchanges_passed xs notes

-- a run of a port is a run of its units over these
abbrev pub PortRuns : (Header : Type 0) → {S : Type 0} → Answering S → Type 0
PortRuns Header {S} A =
    (slave : Header → ℕ) (start last : PortState S) (xs : List (Exchange Header)) (notes : List Note)
    → NotedRun slave A start xs notes last
    → (last.units ≡ start.units) × Run slave (units_answering A) start.line (exchanges_passed xs notes) last.line

-- A port over units whose addresses it counts for still does after a run: these never change.
abbrev pub AddressesStay : (Header : Type 0) → {S : Type 0} → Answering S → Type 0
AddressesStay Header {S} A =
    (slave : Header → ℕ) (start last : PortState S) (xs : List (Exchange Header))
    → Run slave (port_answering A) start xs last
    → start.units ≡ addresses_of start.line.units → last.units ≡ addresses_of last.line.units

-- it is a restart
abbrev pub is_restart : Heard → Bool
is_restart (Asks (Restart erases)) = true
is_restart _ = false

-- A port that only listens answers nothing and does nothing, until it is restarted.
abbrev pub ListensInSilence : (Header : Type 0) → {S : Type 0} → Answering S → Type 0
ListensInSilence Header {S} A =
    (slave : Header → ℕ) (start last : PortState S) (xs : List (Exchange Header)) (notes : List Note)
    → NotedRun slave A start xs notes last → start.journal.listens_only ≡ true → All (λ n. is_restart n.heard ≡ false) notes
    → (last.journal.listens_only ≡ true) × (last.line ≡ start.line) × All (λ x. x.outcome ≡ silence) xs
