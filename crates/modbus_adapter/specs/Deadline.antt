-- What a link does that has a deadline for each call.
use Rattle.std.specs.Prelude.{◌≡◌, ◌⊎◌, ℕ, ◌-◌, min, nat_lt, not, Bool, true, false, Option, Some, None, Result, Ok, Err, IsErr, OnErr}
use Rattle.std.specs.Option.{option_map}
use Rattle.std.specs.Duration.{as_nanos}
use Rattle.std.specs.declared.net.SocketAddr.{SocketAddr}
use Rattle.std.specs.declared.time.Duration.{Duration}
use Rattle.modbus_link.specs.declared.outside.Failed.{Failed}
use Rattle.modbus_link.specs.Outside.{Input, Rose}
use Rattle.modbus_link.specs.Memory.{next_count, faults_after}
use Rattle.modbus_link.specs.Line.{Line}
use Rattle.modbus_adapter.specs.Moments.{Reading, no_reading, ReadsClock}

-- a link over another one, with a deadline
pub record DeadlineState (L : Type 0) : Type 0 where
  pub link : L
  -- how long a call may take; any time where there is none
  pub deadline : Option Duration
  -- the timeout that was set last
  pub timeout : Option Duration
  -- whether the next write begins a call
  pub is_ended : Bool
  -- when the call began, and when the last read or write did
  pub start : Reading
  pub last : Reading
  -- how often its clock was read
  pub readings : ℕ
  -- how many of its reads failed, and how many of its writes; they stay at the last number of a counter
  pub read_faults : ℕ
  pub write_faults : ℕ

-- one that nothing was done to
abbrev pub deadline_at_start : {L : Type 0} → L → Option Duration → DeadlineState L
deadline_at_start link deadline = record {
  link = link;
  deadline = deadline;
  timeout = None;
  is_ended = true;
  start = no_reading;
  last = no_reading;
  readings = 0;
  read_faults = 0;
  write_faults = 0;
}

-- what is left of a call that began then, by now; none where there is no deadline, or a moment is not known
abbrev pub nanos_left : Option ℕ → Option ℕ → Option ℕ → Option ℕ
nanos_left (Some limit) (Some start) (Some now) = Some (limit - (now - start))
nanos_left _ _ _ = None

-- no time is left
abbrev pub is_none_left : Option ℕ → Bool
is_none_left (Some left) = not (nat_lt 0 left)
is_none_left None = false

-- the smaller one, where there are two
abbrev pub least : Option ℕ → Option ℕ → Option ℕ
least (Some a) (Some b) = Some (min a b)
least (Some a) None = Some a
least None b = b

-- what was left of the call at the last read or write
abbrev pub left_of : {L : Type 0} → DeadlineState L → Option ℕ
left_of it = nanos_left (option_map as_nanos it.deadline) it.start.at it.last.at

-- the deadline had passed by then
abbrev pub is_over : {L : Type 0} → DeadlineState L → Bool
is_over it = is_none_left (left_of it)

-- What a read or a write does with the link: nothing once the deadline has passed, and then it fails; else it may take as long as is left,
-- and as the timeout says, and fails only where the link does.
pub record WithinDeadline {L : Type 0} (line : L → Line) (old new : DeadlineState L) (before after : ℕ) (result : Result ℕ Failed) : Type 0 where
  pub over : is_over new ≡ true → IsErr result × (new.link ≡ old.link)
  pub limit : is_over new ≡ false → option_map as_nanos (line new.link).timeout ≡ least (option_map as_nanos old.timeout) (left_of new)
  -- by the link's counts of faults
  pub fails : OnErr result ((is_over new ≡ true) ⊎ Rose before after)

-- One read, behind which a write begins a call.
pub record DeadlineReads {L : Type 0} (line : L → Line) (old new : DeadlineState L) (before after : ℕ) (result : Result ℕ Failed) : Type 0 where
  pub within : WithinDeadline line old new before after result
  -- the clock was read for it
  pub reads_clock : ReadsClock old.readings new.readings new.last
  pub counts : new ≡ record old { link = new.link; last = new.last; readings = new.readings; is_ended = true; read_faults = faults_after result old.read_faults }

-- The clock is read for the beginning of a call, where one begins.
abbrev pub BeginsIfEnded : {L : Type 0} → Bool → DeadlineState L → DeadlineState L → Type 0
BeginsIfEnded true old new = ReadsClock old.readings new.readings new.start × (new ≡ record old { start = new.start; readings = new.readings })
BeginsIfEnded false old new = new ≡ old

-- A call that begins is one for whose beginning the clock was read, and what began goes on else. Then the clock was read for the write.
abbrev pub Goes : {L : Type 0} → Bool → DeadlineState L → DeadlineState L → Type 0
Goes true old new = ReadsClock old.readings (next_count old.readings) new.start × ReadsClock (next_count old.readings) new.readings new.last
Goes false old new = (new.start ≡ old.start) × ReadsClock old.readings new.readings new.last

-- a call ends where it fails
abbrev pub is_failed : {T E : Type 0} → Result T E → Bool
is_failed (Ok value) = false
is_failed (Err error) = true

-- One write: it begins a call where the one before had ended, as it has after a read, or where a read or a write failed.
pub record DeadlineWrites {L : Type 0} (line : L → Line) (old new : DeadlineState L) (before after : ℕ) (result : Result ℕ Failed) : Type 0 where
  pub within : WithinDeadline line old new before after result
  pub goes : Goes old.is_ended old new
  pub ended : new.is_ended ≡ is_failed result
  pub counts : new ≡ record old {
    link = new.link;
    start = new.start;
    last = new.last;
    readings = new.readings;
    is_ended = new.is_ended;
    write_faults = faults_after result old.write_faults;
  }

-- what a link that tells its bytes means over another one: it may fail at any time, as its own count tells
abbrev pub input_over : Input → ℕ → Input
input_over input faults = record input { faults = faults; sure = false }

-- its line is that of the link, but for the timeout that was set last
abbrev pub line_over : Line → Option Duration → Line
line_over line timeout = record line { timeout = timeout }

-- a connector of links with a deadline
pub record DeadlinesState (K : Type 0) : Type 0 where
  pub connector : K
  pub deadline : Option Duration

-- the link that was given, with this deadline
abbrev pub IsWithDeadline : {L : Type 0} → Option Duration → Result L Failed → Result (DeadlineState L) Failed → Type 0
IsWithDeadline deadline (Ok link) (Ok given) = given ≡ deadline_at_start link deadline
IsWithDeadline deadline (Ok link) (Err failed) = ⊥
IsWithDeadline deadline (Err failed) (Ok given) = ⊥
IsWithDeadline deadline (Err failed) (Err told) = told ≡ failed

-- One connection of the connector that it stands on, and nothing beside.
pub record ConnectsWithDeadline {K L : Type 0} (connects : K → SocketAddr → Option Duration → Result L Failed → K → Type 0) (old : DeadlinesState K) (addr : SocketAddr) (timeout : Option Duration)
    (result : Result (DeadlineState L) Failed) (new : DeadlinesState K) : Type 0 where
  pub given : Result L Failed
  pub asks : connects old.connector addr timeout given new.connector
  pub told : IsWithDeadline old.deadline given result
  pub rest : new ≡ record old { connector = new.connector }
