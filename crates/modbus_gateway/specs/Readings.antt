-- Readings of a clock, each by its number.
use Rattle.std.specs.Prelude.{ℕ, Option, None}
use Rattle.std.specs.declared.time.Instant.{Instant}

-- a reading of a clock
pub record Reading : Type 0 where
  -- what the clock told, or nothing where it could not be read
  pub at : Option Instant
  -- the number of the reading, from 1 on, which stays at the last number of a counter; 0 where the clock was not read
  pub number : ℕ

-- none was made
abbrev pub no_reading : Reading
no_reading = record { at = None; number = 0 }
