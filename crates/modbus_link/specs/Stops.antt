-- What a signal in memory keeps.
use Rattle.std.specs.Prelude.{ℕ, ◌-◌, ◌==◌, Bool, true, false}
use Rattle.modbus_link.specs.Memory.{next_count}

pub record StopState : Type 0 where
  -- how often it is looked at before it is set
  pub left : ℕ
  -- how often it said that it is set; it stays at the last number of a counter
  pub stops : ℕ

-- a signal that was never looked at
abbrev pub stop_at_start : ℕ → StopState
stop_at_start after = record { left = after; stops = 0 }

-- the count of stops after a look with this answer
abbrev pub stops_after : Bool → ℕ → ℕ
stops_after true stops = next_count stops
stops_after false stops = stops

-- a look uses one of those that are left up, or counts a stop where none is
abbrev pub looked_at : StopState → StopState
looked_at stop = record { left = stop.left - 1; stops = stops_after (stop.left == 0) stop.stops }
