-- The word that says for how long a request waits for its turn at the line.
use Rattle.std.specs.Prelude.{ℕ, ◌*◌, List, Option, Some, None}
use Rattle.modbus_poll.specs.Notation.{number_within}

-- for how many milliseconds a request waits at most
abbrev pub stale_named : List ℕ → Option ℕ
stale_named word = number_within 6 1 600_000 word

-- the milliseconds that were said, or four times those for which the reply of a slave is waited for
abbrev pub stale_said : Option ℕ → ℕ → ℕ
stale_said (Some millis) reply = millis
stale_said None reply = 4 * reply
