-- What a port counts (Modbus Application Protocol V1.1b3, sections 6.8.1 and 6.9). Each counter stays at the last number of two bytes.
use Rattle.std.specs.Prelude.{◌≡◌, ◌⊎◌, ℕ, ◌+◌, min, ◌==◌, ◌&&◌, not, Bool, true, false, if◌then◌else◌, List, ◌∷◌, ◌++◌, length, filter, All}
use Rattle.modbus_frame.specs.Codes.{exception_number}
use Rattle.modbus_service.specs.Outcome.{Outcome, silence, reply, exception}
use Rattle.modbus_diagnostics.specs.declared.counters.Counters.{Counters}
use Rattle.modbus_diagnostics.specs.declared.counters.Ended.{Ended}
use Rattle.modbus_diagnostics.specs.declared.counters.Ended.TheVariants.{Well, Refused, Silent}
use Rattle.modbus_diagnostics.specs.declared.heard.Heard.{Heard}
use Rattle.modbus_diagnostics.specs.Heard.{is_message, is_own, is_broadcast, clears, asks_events}

-- the last number of a counter
abbrev pub greatest_count : ℕ
greatest_count = 65535

-- the exceptions that have counters of their own (section 7): a server that is busy, and a negative acknowledge
abbrev pub busy : ℕ
busy = 6

abbrev pub negative_acknowledge : ℕ
negative_acknowledge = 7

-- one more where this happened
abbrev pub next_if : Bool → ℕ → ℕ
next_if happened count = if happened then min (count + 1) greatest_count else count

abbrev pub zeros : Counters
zeros = record {
  bus_messages = 0;
  checksum_errors = 0;
  exceptions = 0;
  own_messages = 0;
  no_responses = 0;
  negative_acknowledges = 0;
  busy = 0;
  events = 0;
}

-- the counters with the message that asks for them
abbrev pub with_this : Counters → Counters
with_this c = record c { bus_messages = next_if true c.bus_messages; own_messages = next_if true c.own_messages }

-- how a message ended that had this outcome
abbrev pub outcome_counted : Outcome → Ended
outcome_counted silence = Silent
outcome_counted (reply response) = Well
outcome_counted (exception code) = Refused code

-- an own message that was answered with an exception, or would have been, had it not been for all
abbrev pub is_refused : Heard → Ended → Bool
is_refused h (Refused code) = is_own h
is_refused h _ = false

-- an own message that was answered with this exception
abbrev pub is_refused_by : ℕ → Heard → Ended → Bool
is_refused_by number h (Refused code) = is_own h && not (is_broadcast h) && exception_number code == number
is_refused_by number h _ = false

-- an own message that was not answered: no message for all is
abbrev pub is_unanswered : Heard → Ended → Bool
is_unanswered h Silent = is_own h
is_unanswered h _ = is_broadcast h

-- an event (6.9): an own message that was done well, and does not ask for the number of events
abbrev pub is_event : Heard → Ended → Bool
is_event h Well = is_own h && not (asks_events h)
is_event h _ = false

-- the counters after what was heard ended so
abbrev pub counters_after : Counters → Heard → Ended → Counters
counters_after c h end =
    if clears h then zeros else
    record {
      bus_messages = next_if (is_message h) c.bus_messages;
      checksum_errors = next_if (not (is_message h)) c.checksum_errors;
      exceptions = next_if (is_refused h end) c.exceptions;
      own_messages = next_if (is_own h) c.own_messages;
      no_responses = next_if (is_unanswered h end) c.no_responses;
      negative_acknowledges = next_if (is_refused_by negative_acknowledge h end) c.negative_acknowledges;
      busy = next_if (is_refused_by busy h end) c.busy;
      events = next_if (is_event h end) c.events;
    }

-- what a port heard, and how it ended
pub record Note : Type 0 where
  pub heard : Heard
  pub end : Ended

-- how many of these are so, as a counter counts
abbrev pub tally : (Note → Bool) → List Note → ℕ
tally is notes = min (length (filter is notes)) greatest_count

-- The counts over what was heard: the messages, what is none, the exceptions, the messages for its units or for all, those of them that
-- were not answered, those that had the exceptions 07 and 06, the events.
abbrev pub counters_of : List Note → Counters
counters_of notes = record {
  bus_messages = tally (λ n. is_message n.heard) notes;
  checksum_errors = tally (λ n. not (is_message n.heard)) notes;
  exceptions = tally (λ n. is_refused n.heard n.end) notes;
  own_messages = tally (λ n. is_own n.heard) notes;
  no_responses = tally (λ n. is_unanswered n.heard n.end) notes;
  negative_acknowledges = tally (λ n. is_refused_by negative_acknowledge n.heard n.end) notes;
  busy = tally (λ n. is_refused_by busy n.heard n.end) notes;
  events = tally (λ n. is_event n.heard n.end) notes;
}

-- none of these clears the counters
abbrev pub NoneClears : List Note → Type 0
NoneClears notes = All (λ n. clears n.heard ≡ false) notes

-- what was heard after the counters were last cleared, or all where they never were
abbrev pub AreSinceCleared : List Note → List Note → Type 0
AreSinceCleared notes since =
    NoneClears since × ((since ≡ notes) ⊎ ((before : List Note) × (n : Note) × (clears n.heard ≡ true) × (notes ≡ before ++ n ∷ since)))
