-- What a search of the held bytes for the next frame finds.
use Rattle.std.specs.Prelude.{◌≡◌, ℕ, ◌+◌, ◌<◌, ◌≤◌, List, length, drop}
use Rattle.modbus_rtu.specs.declared.verdict.Verdict.{Verdict}
use Rattle.modbus_rtu.specs.declared.verdict.Verdict.TheVariants.{Open, Bad, Good}
use Rattle.modbus_rtu.specs.declared.search.Next.{Next}
use Rattle.modbus_rtu.specs.declared.search.Next.TheVariants.{Frame, Waiting, TooManyRetries}
use Rattle.modbus_rtu.specs.Frame.{verdict_of}
use Rattle.modbus_rtu.specs.Limits.{overhead, max_retries}

-- The first n offsets are bad, by what judges the bytes from an offset on.
abbrev pub AreBadBy : (List ℕ → Verdict) → List ℕ → ℕ → Type 0
AreBadBy judge held n = (i : ℕ) → i < n → judge (drop i held) ≡ Bad

-- The next frame stands at the first good offset after fewer than `max_retries` bad ones; or the search waits at an open offset
-- after fewer than `max_retries` bad ones; or the first `max_retries` offsets are bad.
abbrev pub IsNextBy : (List ℕ → Verdict) → List ℕ → Next → Type 0
IsNextBy judge held (Frame start pdu_len) = (start < max_retries) × AreBadBy judge held start × (judge (drop start held) ≡ Good pdu_len)
IsNextBy judge held (Waiting dropped) = (dropped < max_retries) × AreBadBy judge held dropped × (judge (drop dropped held) ≡ Open)
IsNextBy judge held TooManyRetries = AreBadBy judge held max_retries

-- the same for requests
abbrev pub AreBad : List ℕ → ℕ → Type 0
AreBad held n = AreBadBy verdict_of held n

abbrev pub IsNext : List ℕ → Next → Type 0
IsNext held next = IsNextBy verdict_of held next

-- What is taken off lies within the held bytes, and what then waits is shorter than the longest frame.
abbrev pub IsWithin : ℕ → List ℕ → Next → Type 0
IsWithin longest held (Frame start pdu_len) = start + (pdu_len + overhead) ≤ length held
IsWithin longest held (Waiting dropped) = (dropped ≤ length held) × (length held < dropped + longest)
IsWithin longest held TooManyRetries = max_retries ≤ length held
