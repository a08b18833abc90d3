-- What is told of what may happen often.
use Rattle.std.specs.Prelude.{ℕ, ◌+◌, ◌-◌, ◌^◌, ◌&&◌, ◌||◌, min, not, nat_le, nat_lt, Option, Some, None, Bool, true, false, if◌then◌else◌}
use Rattle.std.specs.Time.{instant_nanos}
use Rattle.std.specs.declared.time.Instant.{Instant}

pub record NotesState : Type 0 where
  -- how often it happened since it was told last, up to the last number of a counter
  pub untold : ℕ
  -- whether it was ever told
  pub was_told : Bool
  -- the reading of the clock as it was told last, or nothing where that could not be read
  pub since : Option Instant

-- nothing happened yet
abbrev pub nothing_noted : NotesState
nothing_noted = record { untold = 0; was_told = false; since = None }

-- how many nanoseconds lie between two notes at least
abbrev pub a_minute : ℕ
a_minute = 60_000_000_000

-- by these readings so much time is over
abbrev pub has_passed : Option Instant → Option Instant → Bool
has_passed (Some since) (Some now) = nat_le a_minute (instant_nanos now - instant_nanos since)
has_passed (Some since) None = false
has_passed None now = false

-- there is something that was not told yet
abbrev pub has_untold : NotesState → Bool
has_untold notes = nat_lt 0 notes.untold

-- it is told, by this reading: the first time, and then once a minute is over
abbrev pub is_told : NotesState → Option Instant → Bool
is_told notes now = has_untold notes && (not notes.was_told || has_passed notes.since now)

-- the same with so many more
abbrev pub with_more : ℕ → NotesState → NotesState
with_more count notes = record notes { untold = min (notes.untold + count) (2 ^ 64 - 1) }

-- how many are told then
abbrev pub told_of : ℕ → Option Instant → NotesState → Option ℕ
told_of count now notes = if is_told (with_more count notes) now then Some (with_more count notes).untold else None

-- what is kept then
abbrev pub noted : ℕ → Option Instant → NotesState → NotesState
noted count now notes =
    if is_told (with_more count notes) now then record { untold = 0; was_told = true; since = now } else with_more count notes
