-- A pause after a connection that failed.
use Rattle.std.specs.Prelude.{◌≡◌, ℕ, Option, Some, None, Result, Ok, Err}
use Rattle.std.specs.Duration.{as_nanos}
use Rattle.std.specs.declared.net.SocketAddr.{SocketAddr}
use Rattle.std.specs.declared.time.Duration.{Duration}
use Rattle.modbus_link.specs.declared.outside.Failed.{Failed}
use Rattle.modbus_link.specs.Memory.{next_count}
use Rattle.modbus_adapter.specs.Moments.{Reading, no_reading, ReadsClock}
use Rattle.modbus_adapter.specs.Paced.{pause_left}

-- a connector over another one
pub record PausedState (K : Type 0) : Type 0 where
  pub connector : K
  pub pause : Duration
  -- when the last connection failed; none where it did not, or none was made
  pub failed : Option Reading
  -- what the clock told before the last connection
  pub asked : Reading
  -- how often its clock was read
  pub readings : ℕ
  -- for how long the last connection slept first, in nanoseconds
  pub slept : ℕ

-- one that made no connection
abbrev pub paused_at_start : {K : Type 0} → K → Duration → PausedState K
paused_at_start connector pause = record { connector = connector; pause = pause; failed = None; asked = no_reading; readings = 0; slept = 0 }

-- a moment is kept exactly where the connection failed, and the clock, which had been read so often, was read for it
abbrev pub KeepsFailure : {L : Type 0} → Result L Failed → ℕ → ℕ → Option Reading → Type 0
KeepsFailure (Ok link) before after failed = (failed ≡ None) × (after ≡ before)
KeepsFailure (Err why) before after failed = (now : Reading) × (failed ≡ Some now) × ReadsClock before after now

-- What is left of the pause since the last connection failed is slept, and nothing where it did not; then one connection is made.
pub record ConnectsPaused {K L : Type 0} (connects : K → SocketAddr → Option Duration → Result L Failed → K → Type 0) (old : PausedState K) (addr : SocketAddr) (timeout : Option Duration)
    (result : Result L Failed) (new : PausedState K) : Type 0 where
  pub asks : connects old.connector addr timeout result new.connector
  pub slept : new.slept ≡ pause_left (as_nanos old.pause) old.failed new.asked
  pub reads_clock : ReadsClock old.readings (next_count old.readings) new.asked
  pub failed : KeepsFailure result (next_count old.readings) new.readings new.failed
  pub rest : new ≡ record old { connector = new.connector; failed = new.failed; asked = new.asked; readings = new.readings; slept = new.slept }
