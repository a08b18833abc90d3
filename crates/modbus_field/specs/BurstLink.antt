-- What one read of a link whose reads are bursts gives.
use Rattle.std.specs.Prelude.{◌≡◌, ◌⊎◌, ℕ, ◌+◌, ◌-◌, ◌^◌, ◌<◌, ◌≤◌, min, List, [], ◌++◌, length, take, IsTrue, Option, Some, None, Result, Ok, Err, IfOk, OnErr, ⊤}
use Rattle.modbus_link.specs.declared.outside.Failed.{Failed}
use Rattle.modbus_link.specs.declared.polled.Polled.{Polled}
use Rattle.modbus_link.specs.declared.polled.Polled.TheVariants.{Ready, Pending}
use Rattle.modbus_link.specs.Outside.{Input, Output, Rose, Advances, bytes_read}

-- a link over another one that tells silence
pub record BurstState (L : Type 0) : Type 0 where
  pub link : L
  -- how many of its reads failed, and how many of its writes; they stay at the last number of a counter
  pub read_faults : ℕ
  pub write_faults : ℕ

-- one that nothing was done to
abbrev pub burst_at_start : {L : Type 0} → L → BurstState L
burst_at_start link = record { link = link; read_faults = 0; write_faults = 0 }

-- What a link takes that is written through to another one: it may fail at any time, as its own count tells.
abbrev pub output_over : Output → ℕ → Output
output_over output faults = record output { faults = faults; sure_below = 0 }

-- the last number of a counter
abbrev pub last_count : ℕ
last_count = 2 ^ 64 - 1

-- a read failed: the link did, or it told as many silences as can be counted
abbrev pub FailsBy : Input → Input → ℕ → Type 0
FailsBy from to silences = Rose from.faults to.faults ⊎ (last_count ≤ silences)

-- a silence was counted, as far as it can be
abbrev pub OneMore : ℕ → ℕ → Type 0
OneMore before after = (after ≡ before + 1) ⊎ (last_count ≤ after)

-- what a poll with this result adds to a count of silences: one where it told one, and else none
abbrev pub CountsSilence : {E : Type 0} → Result (Polled ℕ) E → ℕ → ℕ → Type 0
CountsSilence (Ok (Ready count)) before after = after ≡ before
CountsSilence (Ok Pending) before after = OneMore before after
CountsSilence (Err error) before after = after ≡ before

-- Why a burst ended, of which so many bytes were given, by the silences that were counted before it began and when it ended: by the first
-- silence behind a byte; by the end of the input, or as it has as many bytes as can be counted, and then with no silence in it.
abbrev pub EndsBurst : Input → Input → ℕ → ℕ → ℕ → Type 0
EndsBurst from to before after count =
    ((0 < count) × OneMore before after)
    ⊎ ((after ≡ before) × ((IsTrue from.told → to.left ≡ []) ⊎ (IsTrue from.told → last_count ≤ length (bytes_read from to))))

-- A link that was so had then, being so, given nothing yet.
abbrev pub IsQuiet : {L : Type 0} → (L → Input) → L → L → Type 0
IsQuiet input from quiet = Advances (input from) (input quiet) × (IsTrue (input from).told → bytes_read (input from) (input quiet) ≡ [])

-- what came came at once behind such a moment, with no silence between
pub record ComesBehind {L : Type 0} (input : L → Input) (silences : L → ℕ) (from to : L) : Type 0 where
  pub quiet : L
  pub is_quiet : IsQuiet input from quiet
  pub same : silences to ≡ silences quiet

-- the first byte came behind such a moment, and what came since is the whole burst
pub record EndsBehind {L : Type 0} (input : L → Input) (silences : L → ℕ) (from to : L) (count : ℕ) : Type 0 where
  pub quiet : L
  pub is_quiet : IsQuiet input from quiet
  pub ends : EndsBurst (input from) (input to) (silences quiet) (silences to) count

-- One read into a room of this length of a link with such an input and such a count of silences: it gave what it had until the first silence
-- behind a byte, and the front of that stands at the front of what is given. The rest of it is dropped.
pub record GivesBurst {L : Type 0} (input : L → Input) (silences : L → ℕ) (from to : L) (room : ℕ) (given : List ℕ) (result : Result ℕ Failed) : Type 0 where
  pub source : Advances (input from) (input to)
  pub later : silences from ≤ silences to
  pub front : IsTrue (input from).told → IfOk result (λ count. take count given ≡ take room (bytes_read (input from) (input to)))
  pub ends : IfOk result (EndsBehind input silences from to)
  pub fails : OnErr result (FailsBy (input from) (input to) (silences to))

-- a whole burst that came with no silence before it, of which so many bytes stand at the front of what is given; none where the input ended
pub record BurstAtOnce {L : Type 0} (input : L → Input) (silences : L → ℕ) (from to : L) (room count : ℕ) (given : List ℕ) : Type 0 where
  pub source : Advances (input from) (input to)
  pub front : IsTrue (input from).told → take count given ≡ take room (bytes_read (input from) (input to))
  pub ends : EndsBurst (input from) (input to) (silences from) (silences to) count

-- a silence was told, before any byte
pub record SilenceFirst {L : Type 0} (input : L → Input) (silences : L → ℕ) (from to : L) : Type 0 where
  pub quiet : IsQuiet input from to
  pub counted : OneMore (silences from) (silences to)

-- One read of a burst that is to come at once: it did, or a silence came first.
abbrev pub GivesAtOnce : {L : Type 0} → (L → Input) → (L → ℕ) → L → L → ℕ → List ℕ → Result (Option ℕ) Failed → Type 0
GivesAtOnce input silences from to room given (Ok (Some count)) = BurstAtOnce input silences from to room count given
GivesAtOnce input silences from to room given (Ok None) = SilenceFirst input silences from to
GivesAtOnce input silences from to room given (Err error) = Advances (input from) (input to) × Rose (input from).faults (input to).faults

-- it gives no more than there is room for
abbrev pub FitsRoom : {E : Type 0} → Result (Option ℕ) E → List ℕ → Type 0
FitsRoom (Ok (Some count)) room = count ≤ length room
FitsRoom _ room = ⊤

-- so many bytes came, and none where the link told silence
abbrev pub came : Result (Polled ℕ) Failed → ℕ
came (Ok (Ready count)) = count
came (Ok Pending) = 0
came (Err error) = 0

-- One poll in the middle of a burst, of which so many bytes stand in a room: what came goes behind these, as far as there is room.
pub record GoesOn (from to : Input) (count : ℕ) (old new : List ℕ) (result : Result (Polled ℕ) Failed) : Type 0 where
  pub source : Advances from to
  pub size : IsTrue from.told → length (bytes_read from to) ≡ came result
  pub bytes : IsTrue from.told → take (min (length old) (count + came result)) new ≡ take (length old) (take count old ++ bytes_read from to)
  pub same : length new ≡ length old

-- The rest of a burst was read, of which so many bytes stood in a room.
pub record Finishes (from to : Input) (before after first : ℕ) (old new : List ℕ) (result : Result ℕ Failed) : Type 0 where
  pub source : Advances from to
  pub later : before ≤ after
  pub same : length new ≡ length old
  pub within : IfOk result (λ count. (first ≤ count) × (count ≤ length old))
  pub front : IsTrue from.told → IfOk result (λ count. take count new ≡ take (length old) (take first old ++ bytes_read from to))
  pub ends : IfOk result (EndsBurst from to before after)
  pub cause : OnErr result (Rose from.faults to.faults)
