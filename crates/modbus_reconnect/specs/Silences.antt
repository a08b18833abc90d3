-- How long a line is waited for, in silences of a link that tells them.
use Rattle.std.specs.Prelude.{ℕ, ◌+◌, ◌-◌, ◌/◌, ◌^◌, min, max, Option, None, Some}
use Rattle.std.specs.Duration.{as_nanos}
use Rattle.std.specs.declared.time.Duration.{Duration}

-- As many silences of this length as do not end before this time, both in nanoseconds, and one at least. One of no length counts as one of a
-- nanosecond.
abbrev pub silences_in : ℕ → ℕ → ℕ
silences_in time silence = min ((time - 1) / max silence 1 + 1) (2 ^ 64 - 1)

-- the same of durations; with none there is no end, as far as a counter goes
abbrev pub silences_for : Option Duration → Duration → ℕ
silences_for None silence = 2 ^ 64 - 1
silences_for (Some time) silence = silences_in (as_nanos time) (as_nanos silence)
