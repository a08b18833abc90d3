-- When it is looked who is to be let go.
use Rattle.std.specs.Prelude.{ℕ, ◌-◌, ◌||◌, min, nat_le, is_none, Option, Some, None, Bool, false, if◌then◌else◌}
use Rattle.std.specs.Option.{option_map}
use Rattle.std.specs.Duration.{as_nanos}
use Rattle.std.specs.Time.{instant_nanos}
use Rattle.std.specs.declared.time.Duration.{Duration}
use Rattle.std.specs.declared.time.Instant.{Instant}
use Rattle.modbus_hub.specs.declared.sweeps.Deadlines.{Deadlines}
use Rattle.modbus_hub.specs.Events.{Place}

-- the shorter of two times, where the first may be any time
abbrev pub shorter_of : Option ℕ → ℕ → ℕ
shorter_of None other = other
shorter_of (Some time) other = min time other

-- a reading of the clock, and its number, from 1 on
pub record Reading : Type 0 where
  -- what the clock told, or nothing where it could not be read
  pub at : Option Instant
  pub number : ℕ

-- how often it is looked, and when it was looked last, or the time began to run
pub record Sweep : Type 0 where
  -- how much time lies between two looks; with none it is never looked
  pub period : Option Duration
  pub since : Option Instant

-- by these readings of a clock so much time is over since then
abbrev pub has_passed : Option ℕ → Option Instant → Option Instant → Bool
has_passed (Some period) (Some since) (Some now) = nat_le period (instant_nanos now - instant_nanos since)
has_passed period since now = false

-- it is to be looked again, by this reading of the clock
abbrev pub is_due : Sweep → Option Instant → Bool
is_due sweep now = has_passed (option_map as_nanos sweep.period) sweep.since now

-- after that reading: the time runs anew where it was looked, and where no reading was had before
abbrev pub looked : Sweep → Option Instant → Sweep
looked sweep now = if is_due sweep now || is_none sweep.since then record sweep { since = now } else sweep

-- both looks, for idle connections and for late ones, and the last reading of the clock
pub record Sweeps : Type 0 where
  pub idle : Sweep
  pub late : Sweep
  pub last : Reading

-- both, whose time begins to run at this reading
abbrev pub begun_with : Deadlines → Reading → Sweeps
begun_with deadlines reading = record {
  idle = record { period = deadlines.idle; since = reading.at };
  late = record { period = deadlines.message; since = reading.at };
  last = reading;
}

-- both after a further reading
abbrev pub all_looked : Sweeps → Reading → Sweeps
all_looked sweeps reading = record { idle = looked sweeps.idle reading.at; late = looked sweeps.late reading.at; last = reading }

module _ {L : Type 0} where
  -- what stays of a connection where it is looked, or not
  abbrev pub stays_if : Bool → (Option (Place L) → Option (Place L)) → Option (Place L) → Option (Place L)
  stays_if due stays slot = if due then stays slot else slot
