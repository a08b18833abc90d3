-- The pause between what is read and what is written behind it (MODBUS over Serial Line V1.02, section 2.5.1.1).
use Rattle.std.specs.Prelude.{◌≡◌, ℕ, zero, suc, ◌+◌, ◌-◌, ◌/◌, ◌==◌, nat_lt, Option, Some, None, Result, Ok, Err, if◌then◌else◌}
use Rattle.std.specs.Duration.{as_nanos}
use Rattle.std.specs.declared.time.Duration.{Duration}
use Rattle.modbus_link.specs.declared.outside.Failed.{Failed}
use Rattle.modbus_link.specs.declared.polled.Polled.{Polled}
use Rattle.modbus_link.specs.declared.polled.Polled.TheVariants.{Ready, Pending}
use Rattle.modbus_link.specs.Terminal.{nanos_between}
use Rattle.modbus_adapter.specs.Moments.{Reading, no_reading, ReadsClock}

-- one more than the whole part of a quotient that is no whole number
abbrev pub rounded_up : ℕ → ℕ → ℕ
rounded_up n d = (n + (d - 1)) / d

-- how many microseconds a pause takes at so many bits a second: as long as 3.5 characters of 11 bits, rounded up; 1,750 above 19,200; and
-- 4,000 where no speed is known
abbrev pub pause_micros : ℕ → ℕ
pause_micros baud =
    if baud == 0 then 4_000 else if nat_lt 19_200 baud then 1_750 else rounded_up 38_500_000 baud

-- a link over another one
pub record PacedState (L : Type 0) : Type 0 where
  pub link : L
  pub pause : Duration
  -- when the last bytes were read, if no write came since
  pub since : Option Reading
  -- what the clock told before the last write
  pub wrote : Reading
  -- how often its clock was read
  pub readings : ℕ
  -- for how long the last write slept first, in nanoseconds
  pub slept : ℕ

-- one that nothing was read from, or written to
abbrev pub paced_at_start : {L : Type 0} → L → Duration → PacedState L
paced_at_start link pause = record { link = link; pause = pause; since = None; wrote = no_reading; readings = 0; slept = 0 }

-- what is left of a pause since then: nothing where nothing was read, and all of it where a moment is not known
abbrev pub rest_of : ℕ → Option ℕ → ℕ
rest_of pause (Some took) = pause - took
rest_of pause None = pause

abbrev pub pause_left : ℕ → Option Reading → Reading → ℕ
pause_left pause None now = 0
pause_left pause (Some since) now = rest_of pause (nanos_between since.at now.at)

-- One read of the link. The clock is read behind one that gave bytes, and what it told is kept; of any other nothing is.
abbrev pub PacedReads : {L : Type 0} → PacedState L → PacedState L → Result (Polled ℕ) Failed → Type 0
PacedReads old new (Ok (Ready zero)) = new ≡ record old { link = new.link }
PacedReads old new (Ok (Ready (suc more))) = (now : Reading) × (new ≡ record old { link = new.link; since = Some now; readings = new.readings })
    × ReadsClock old.readings new.readings now
PacedReads old new (Ok Pending) = new ≡ record old { link = new.link }
PacedReads old new (Err failed) = new ≡ record old { link = new.link }

-- One write of the link, before which what was left of the pause by the clock was slept.
pub record PacedWrites {L : Type 0} (old new : PacedState L) : Type 0 where
  pub slept : new.slept ≡ pause_left (as_nanos old.pause) old.since new.wrote
  pub reads_clock : ReadsClock old.readings new.readings new.wrote
  pub rest : new ≡ record old { link = new.link; since = None; wrote = new.wrote; readings = new.readings; slept = new.slept }
