-- The words that say when a slave is dead, and for how long it is not asked then.
use Rattle.std.specs.Prelude.{ℕ, ◌*◌, Bool, not, ◌&&◌, List, Option, Some, None}
use Rattle.std.specs.Option.{is_some}
use Rattle.modbus_poll.specs.Notation.{number_within}

-- after how many requests in a row that it did not answer a slave is dead, and for how many seconds it is not asked then
abbrev pub misses_named : List ℕ → Option ℕ
misses_named word = number_within 4 1 1_000 word

abbrev pub seconds_named : List ℕ → Option ℕ
seconds_named word = number_within 4 1 3_600 word

-- the seconds that were said, or 10
abbrev pub or_ten : Option ℕ → ℕ
or_ten (Some seconds) = seconds
or_ten None = 10

-- The number of requests that was said, and the time in nanoseconds; nothing where no number was said: then each slave is asked at each
-- request.
abbrev pub limits_said : Option ℕ → Option ℕ → Option (ℕ × ℕ)
limits_said (Some misses) seconds = Some (misses, or_ten seconds * 1_000_000_000)
limits_said None seconds = None

-- it is said for how long a dead slave is not asked, and not when one is dead
abbrev pub wants_misses : Option ℕ → Option ℕ → Bool
wants_misses misses seconds = is_some seconds && not (is_some misses)
