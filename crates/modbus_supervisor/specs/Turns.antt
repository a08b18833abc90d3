-- When the polls of a device begin.
use Rattle.std.specs.Prelude.{◌≡◌, ◌<◌, ◌≤◌, ℕ, ◌+◌, ◌-◌, ◌*◌, ◌/◌, ◌%◌, ◌&&◌, nat_lt, not, min, max, Option, Some, None, if◌then◌else◌}
use Rattle.modbus_supervisor.specs.declared.turn.Turn.{Turn}

-- The first polls of devices are spread over their intervals: that of the one at a place among so many begins the place-th part of its interval
-- after the start, in whole milliseconds; over the first ten seconds where the interval is longer.
abbrev pub first_due : ℕ → ℕ → ℕ → ℕ
first_due every place devices = min every 10000 * place / max devices 1

-- a time that is told is over
abbrev pub IsOver : ℕ → Option ℕ → Type 0
IsOver now None = ⊥
IsOver now (Some time) = time ≤ now

-- When something is to be done for a device: its call that is under way is given up, or its next poll begins, where one is left and it waits for
-- no other device.
abbrev pub wake_by : Turn → Option ℕ → Option ℕ
wake_by turn (Some deadline) = Some deadline
wake_by turn None = if nat_lt 0 turn.left && not turn.is_waiting then Some turn.due else None

abbrev pub wake_of : Turn → Option ℕ
wake_of turn = wake_by turn turn.deadline

-- The first time after now that lies a whole number of intervals after a poll's beginning, which is no later than now.
pub record IsNextAfter (began every now next : ℕ) : Type 0 where
  pub later : now < next
  pub soon : next ≤ now + every
  pub whole : (next - began) % every ≡ 0
