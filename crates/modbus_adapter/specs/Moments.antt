-- The readings of a clock, each by its number.
use Rattle.std.specs.Prelude.{◌≡◌, ℕ, Option, None}
use Rattle.modbus_link.specs.Memory.{next_count}

-- a reading of a clock
pub record Reading : Type 0 where
  -- what the clock told, in nanoseconds since its start, or nothing where it could not be read
  pub at : Option ℕ
  -- the number of the reading, from 1 on; 0 where the clock was not read
  pub number : ℕ

-- none was made
abbrev pub no_reading : Reading
no_reading = record { at = None; number = 0 }

-- The clock, which had been read so often, is read once, and this is what it told then.
pub record ReadsClock (before after : ℕ) (reading : Reading) : Type 0 where
  -- the count stays at the last number of a counter
  pub counts : after ≡ next_count before
  pub number : reading.number ≡ after
