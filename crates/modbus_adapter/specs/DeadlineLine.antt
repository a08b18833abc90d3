-- What a line does that has a deadline for each call, which it is told of.
use Rattle.std.specs.Prelude.{◌≡◌, ◌⊎◌, ℕ, Bool, true, Option, Result, IsErr, OnErr}
use Rattle.std.specs.Option.{option_map}
use Rattle.std.specs.Duration.{as_nanos}
use Rattle.std.specs.declared.time.Duration.{Duration}
use Rattle.modbus_link.specs.declared.outside.Failed.{Failed}
use Rattle.modbus_link.specs.declared.polled.Polled.{Polled}
use Rattle.modbus_link.specs.Outside.{Rose}
use Rattle.modbus_link.specs.Memory.{faults_after}
use Rattle.modbus_link.specs.Line.{LinkMeaning}
use Rattle.modbus_field.specs.BurstLink.{output_over}
use Rattle.modbus_frame.specs.Meaning.{Asked}
use Rattle.modbus_client.specs.Protocol.{Protocol, Heading}
use Rattle.modbus_reconnect.specs.SettleState.{LineMeaning, line_by}
use Rattle.modbus_adapter.specs.Moments.{Reading, no_reading, ReadsClock}
use Rattle.modbus_adapter.specs.Deadline.{nanos_left, is_none_left, input_over}

-- a line over another one, with a deadline
pub record DeadlineLineState (L : Type 0) : Type 0 where
  pub link : L
  -- how long a call may take; any time where there is none
  pub deadline : Option Duration
  -- when the call began, and when its last read, look or write did
  pub start : Reading
  pub last : Reading
  -- how often its clock was read
  pub readings : ℕ
  -- how many of its reads and looks failed, and how many of its writes; they stay at the last number of a counter
  pub read_faults : ℕ
  pub write_faults : ℕ

-- one that was told of no call
abbrev pub deadline_line_at_start : {L : Type 0} → L → Option Duration → DeadlineLineState L
deadline_line_at_start link deadline = record {
  link = link;
  deadline = deadline;
  start = no_reading;
  last = no_reading;
  readings = 0;
  read_faults = 0;
  write_faults = 0;
}

-- the deadline of the call had passed at the last read, look or write
abbrev pub is_line_over : {L : Type 0} → DeadlineLineState L → Bool
is_line_over it = is_none_left (nanos_left (option_map as_nanos it.deadline) it.start.at it.last.at)

-- What a read, a look or a write does with the line: nothing once the deadline has passed, and then it fails; else it fails only where that
-- of the line does.
pub record WithinLineDeadline {L : Type 0} (old new : DeadlineLineState L) (before after : ℕ) (result : Result (Polled ℕ) Failed) : Type 0 where
  pub over : is_line_over new ≡ true → IsErr result × (new.link ≡ old.link)
  -- by the line's counts of faults
  pub fails : OnErr result ((is_line_over new ≡ true) ⊎ Rose before after)

-- One read or look, for which the clock was read. All else stays, so that the call goes on.
pub record DeadlineLineReads {L : Type 0} (old new : DeadlineLineState L) (before after : ℕ) (result : Result (Polled ℕ) Failed) : Type 0 where
  pub within : WithinLineDeadline old new before after result
  pub reads_clock : ReadsClock old.readings new.readings new.last
  pub counts : new ≡ record old { link = new.link; last = new.last; readings = new.readings; read_faults = faults_after result old.read_faults }

-- One write, for which the clock was read.
pub record DeadlineLineWrites {L : Type 0} (old new : DeadlineLineState L) (before after : ℕ) (result : Result (Polled ℕ) Failed) : Type 0 where
  pub within : WithinLineDeadline old new before after result
  pub reads_clock : ReadsClock old.readings new.readings new.last
  pub counts : new ≡ record old { link = new.link; last = new.last; readings = new.readings; write_faults = faults_after result old.write_faults }

-- A call begins: the clock is read, what it tells then begins the call, and all else stays.
pub record BeginsDeadline {L : Type 0} (old new : DeadlineLineState L) : Type 0 where
  pub reads_clock : ReadsClock old.readings new.readings new.start
  pub rest : new ≡ record old { start = new.start; readings = new.readings }

-- what such a line means: its reads and its writes may fail at any time, as its own counts tell
abbrev pub meaning_within : {L : Type 0} → LinkMeaning L → LinkMeaning (DeadlineLineState L)
meaning_within M = record {
  input = λ it. input_over (M.input it.link) it.read_faults;
  output = λ it. output_over (M.output it.link) it.write_faults;
  line = λ it. M.line it.link;
}

-- what the parts of a client of such a line mean, by what those of the line beneath do
abbrev pub line_within : {H I L : Type 0} → Protocol H → Protocol H → Heading H I → LinkMeaning L → (L → ℕ) → (L → ℕ) → LineMeaning H I (DeadlineLineState L)
line_within protocol silent heading link silences looks =
    line_by protocol silent heading (meaning_within link) (λ it. silences it.link) (λ it. looks it.link)
