-- A run of writes and reads over a line whose adapter may give back what is sent (MODBUS over Serial Line V1.02, section 3.3.2).
use Rattle.std.specs.Prelude.{◌≡◌, ◌≢◌, ◌⊎◌, ℕ, List, [], ◌∷◌, Result}
use Rattle.modbus_link.specs.declared.outside.Failed.{Failed}
use Rattle.modbus_link.specs.Outside.{Input}
use Rattle.modbus_echo.specs.declared.guard.Echo.TheVariants.{Absent, Present}
use Rattle.modbus_echo.specs.Guard.{GuardState, Outlook, outlook, BehindSilence, InItsPlace, CameBack, FailsWatching, ReadsGuarded, ReadsWatching, kept_of, watched_after}

-- a write of these bytes, or a read into a room of this length, which gave these; and how it ended
pub data Step : Type 0 where
  write : List ℕ → Result ℕ Failed → Step
  read : ℕ → List ℕ → Result ℕ Failed → Step

-- what such a call does
abbrev pub Steps : {L : Type 0} → (L → Input) → (L → ℕ) → GuardState L → Step → GuardState L → Type 0
Steps input silences old (write piece result) new = new ≡ record old { bursts = new.bursts; reply = watched_after result old.reply piece }
Steps input silences old (read room given result) new =
    ReadsGuarded input silences old (outlook new) room given result × (new.reply ≡ []) × (new.asked ≡ kept_of result given)

abbrev pub GuardRun : {L : Type 0} → (L → Input) → (L → ℕ) → GuardState L → List Step → GuardState L → Type 0
GuardRun input silences start [] last = last ≡ start
GuardRun {L = L} input silences start (step ∷ steps) last =
    (next : GuardState L) × Steps input silences start step next × GuardRun input silences next steps last

-- what was written since the last read, of which as many bytes are kept as a frame has
abbrev pub written_since : List ℕ → List Step → List ℕ
written_since reply [] = reply
written_since reply (write piece result ∷ steps) = written_since (watched_after result reply piece) steps
written_since reply (read room given result ∷ steps) = written_since [] steps

-- what is watched for is at each time what was written since the last read
abbrev pub WatchesForWritten : {L : Type 0} → (L → Input) → (L → ℕ) → Type 0
WatchesForWritten {L} input silences =
    (start last : GuardState L) (steps : List Step) → GuardRun input silences start steps last → last.reply ≡ written_since start.reply steps

-- an adapter that is known to echo is known for good
abbrev pub StaysKnown : {L : Type 0} → (L → Input) → (L → ℕ) → Type 0
StaysKnown {L} input silences =
    (start last : GuardState L) (steps : List Step) → GuardRun input silences start steps last → start.echo ≡ Present → last.echo ≡ Present

-- So each read behind a write watches for what was written since the read before it: where that comes back before a silence it is dropped.
abbrev pub WatchesForGood : {L : Type 0} → (L → Input) → (L → ℕ) → Type 0
WatchesForGood {L} input silences =
    (start at last : GuardState L) (steps : List Step) (room : ℕ) (given : List ℕ) (result : Result ℕ Failed)
    → GuardRun input silences start steps at → start.echo ≡ Present → Steps input silences at (read room given result) last
    → written_since start.reply steps ≢ [] → ReadsWatching input silences at (outlook last) room given result

-- At a read behind a write the adapter gave back what was written: no silence came first, and no other bytes in its place.
abbrev pub GaveBack : {L : Type 0} → (L → Input) → (L → ℕ) → GuardState L → Outlook L → ℕ → List ℕ → Result ℕ Failed → Type 0
GaveBack input silences old new room given result =
    old.reply ≢ [] → (BehindSilence input silences old new room given result → ⊥) × (InItsPlace input silences old new room given result → ⊥)

abbrev pub EchoesIn : {L : Type 0} → (L → Input) → (L → ℕ) → GuardState L → Step → GuardState L → Type 0
EchoesIn input silences old (write piece result) new = Unit {0}
EchoesIn input silences old (read room given result) new = GaveBack input silences old (outlook new) room given result

-- a run over such an adapter
abbrev pub EchoingRun : {L : Type 0} → (L → Input) → (L → ℕ) → GuardState L → List Step → GuardState L → Type 0
EchoingRun input silences start [] last = last ≡ start
EchoingRun {L = L} input silences start (step ∷ steps) last =
    (next : GuardState L) × Steps input silences start step next × EchoesIn input silences start step next × EchoingRun input silences next steps last

-- Over an adapter that echoes, known or not, each read behind a write drops what was written, or fails with the link.
abbrev pub DropsEachReply : {L : Type 0} → (L → Input) → (L → ℕ) → Type 0
DropsEachReply {L} input silences =
    (start at last : GuardState L) (steps : List Step) (room : ℕ) (given : List ℕ) (result : Result ℕ Failed)
    → EchoingRun input silences start steps at → start.echo ≢ Absent → Steps input silences at (read room given result) last
    → GaveBack input silences at (outlook last) room given result → written_since start.reply steps ≢ []
    → CameBack input silences at (outlook last) room given result ⊎ FailsWatching input at (outlook last) result
