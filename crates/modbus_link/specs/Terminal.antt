-- What a terminal that has an end keeps, and what a read of it tells.
use Rattle.std.specs.Prelude.{◌≡◌, ℕ, zero, ◌-◌, Bool, true, false, nat_lt, Option, Some, None, IsSomeAnd, Result, Ok}
use Rattle.modbus_link.specs.declared.polled.Polled.{Polled}
use Rattle.modbus_link.specs.declared.polled.Polled.TheVariants.{Ready, Pending}
use Rattle.modbus_link.specs.Memory.{next_count}
use Rattle.modbus_link.specs.Polled.{waits_after}
use Rattle.modbus_link.specs.Silence.{TerminalState, TerminalReads, TerminalWrites}

-- how many nanoseconds a silence takes at least
abbrev pub shortest_silence : ℕ
shortest_silence = 20_000_000

-- what a clock told before a read and after it, in nanoseconds since its start, or nothing where it could not be read
pub record Readings : Type 0 where
  pub before : Option ℕ
  pub after : Option ℕ

-- the nanoseconds between two readings, if the clock could be read at both
abbrev pub nanos_between : Option ℕ → Option ℕ → Option ℕ
nanos_between (Some before) (Some after) = Some (after - before)
nanos_between _ _ = None

-- whether so many nanoseconds are shorter than a silence; where the time is not known they are not
abbrev pub is_short : Option ℕ → Bool
is_short (Some nanos) = nat_lt nanos shortest_silence
is_short None = false

-- whether a read did not wait as long as a silence takes
abbrev pub is_soon : Readings → Bool
is_soon readings = is_short (nanos_between readings.before readings.after)

-- a link over a terminal that has an end
pub record LineState : Type 0 where
  -- the terminal, which counts each read that gave no byte
  pub streams : TerminalState
  -- how many of these were told as a silence, and how many as the end of the line; they stay at the last number of a counter
  pub silences : ℕ
  pub ends : ℕ
  -- what the clock told around the last read, if there was one
  pub last : Option Readings

-- one that nothing was read from
abbrev pub line_at_start : TerminalState → LineState
line_at_start streams = record { streams = streams; silences = 0; ends = 0; last = None }

-- what the terminal told where this is told of the line: each end was a read that gave no byte
abbrev pub of_terminal : {E : Type 0} → Result (Polled ℕ) E → Result (Polled ℕ) E
of_terminal (Ok (Ready zero)) = Ok Pending
of_terminal result = result

-- the ends that were told, after a read with this result
abbrev pub ends_after : {E : Type 0} → Result (Polled ℕ) E → ℕ → ℕ
ends_after (Ok (Ready zero)) ends = next_count ends
ends_after _ ends = ends

-- What is told by a clock that told this around a read: one that gave no byte is an end exactly where it was soon over, and else a silence.
abbrev pub FitsReadings : {E : Type 0} → Result (Polled ℕ) E → Readings → Type 0
FitsReadings (Ok (Ready zero)) readings = is_soon readings ≡ true
FitsReadings (Ok Pending) readings = is_soon readings ≡ false
FitsReadings _ readings = Unit {0}

-- One read: the terminal is read once, and each end and each silence is counted.
pub record LineReads {E : Type 0} (old new : LineState) (result : Result (Polled ℕ) E) : Type 0 where
  pub reads : TerminalReads old.streams new.streams (of_terminal result)
  pub silences : new.silences ≡ waits_after result old.silences
  pub ends : new.ends ≡ ends_after result old.ends
  pub told : IsSomeAnd new.last (FitsReadings result)

-- one write
pub record LineWrites {E : Type 0} (old new : LineState) (result : Result (Polled ℕ) E) : Type 0 where
  pub writes : TerminalWrites old.streams new.streams result
  pub same : new ≡ record old { streams = new.streams }
