-- The events that a device counts and logs (Modbus Application Protocol V1.1b3, sections 6.9 and 6.10).
use Rattle.std.specs.Prelude.{ℕ, ◌+◌, ◌==◌, ◌&&◌, nat_le, if◌then◌else◌, List, [], ◌∷◌, length, Option, None}
use Rattle.std.specs.Option.{option_map}
use Rattle.modbus_calls.specs.Data.{word_of, is_busy}
use Rattle.modbus_calls.specs.declared.events.EventCounter.{EventCounter}
use Rattle.modbus_calls.specs.declared.events.EventLog.{EventLog}

-- how many events a log has at most
abbrev pub most_events : ℕ
most_events = 64

-- the bytes before the events that the byte count counts: the status, the number of events and the number of messages
abbrev pub counted_head : ℕ
counted_head = 6

-- the bytes before the events, with the byte count
abbrev pub head_size : ℕ
head_size = 1 + counted_head

-- a status and a number of events (6.9)
abbrev pub event_counter_of : List ℕ → Option EventCounter
event_counter_of (high ∷ low ∷ count_high ∷ count_low ∷ []) =
    option_map (λ busy. record { busy = busy; count = word_of count_high count_low }) (is_busy high low)
event_counter_of _ = None

-- A byte count, a status, a number of events, a number of messages, and the events, the latest first. The count is that of the bytes behind
-- it (6.10).
abbrev pub event_log_of : List ℕ → Option EventLog
event_log_of (count ∷ high ∷ low ∷ events_high ∷ events_low ∷ messages_high ∷ messages_low ∷ log) =
    if count == counted_head + length log && nat_le (length log) most_events then
    option_map (λ busy. record { busy = busy; events = word_of events_high events_low; messages = word_of messages_high messages_low; log = log }) (is_busy high low)
    else None
event_log_of _ = None
