-- What a port keeps of its line: its counters, whether it only listens, and its communication event log (Modbus Application Protocol
-- V1.1b3, sections 6.8.1 and 6.10).
use Rattle.std.specs.Prelude.{ℕ, ◌+◌, ◌==◌, ◌||◌, not, Bool, true, false, if◌then◌else◌, List, [], ◌∷◌, take}
use Rattle.modbus_frame.specs.Codes.{exception_number}
use Rattle.modbus_diagnostics.specs.declared.counters.Counters.{Counters}
use Rattle.modbus_diagnostics.specs.declared.counters.Ended.{Ended}
use Rattle.modbus_diagnostics.specs.declared.counters.Ended.TheVariants.{Refused}
use Rattle.modbus_diagnostics.specs.declared.heard.Heard.{Heard}
use Rattle.modbus_diagnostics.specs.declared.heard.Heard.TheVariants.{Noise, Another, Asks, MonitoredAnother}
use Rattle.modbus_diagnostics.specs.declared.query.Query.TheVariants.{ListenOnly, Restart}
use Rattle.modbus_diagnostics.specs.Heard.{is_message, is_broadcast}
use Rattle.modbus_diagnostics.specs.Counters.{Note, zeros, with_this, counters_after}

-- the counters, whether the port only listens, and the event bytes of the log, the newest first
pub record JournalState : Type 0 where
  pub counters : Counters
  pub listens_only : Bool
  pub log : List ℕ

-- the journal of a port that has heard nothing
abbrev pub empty_journal : JournalState
empty_journal = record { counters = zeros; listens_only = false; log = [] }

-- the most events of a log (6.10)
abbrev pub most_events : ℕ
most_events = 64

-- a log with one more event: the newest is first, and the oldest is lost where there are too many
abbrev pub noted : ℕ → List ℕ → List ℕ
noted event log = take most_events (event ∷ log)

-- a bit of an event byte where this is so
abbrev pub bit_if : ℕ → Bool → ℕ
bit_if bit so = if so then bit else 0

-- the events of the port itself: it restarted, it began to listen only
abbrev pub restarted : ℕ
restarted = 0x00

abbrev pub began_to_listen : ℕ
began_to_listen = 0x04

-- Receive event: bit 7, and bit 6 for a broadcast, bit 5 where the port only listens, bit 1 for a communication error. No character is
-- ever lost, so bit 4 is not set.
abbrev pub received : Bool → Heard → ℕ
received listens h = 0x80 + bit_if 0x40 (is_broadcast h) + bit_if 0x20 listens + bit_if 0x02 (not (is_message h))

-- the bit of an exception that was sent: bit 0 for 01 to 03, bit 1 for 04, bit 2 for 05 and 06, bit 3 for 07
abbrev pub exception_bit : ℕ → ℕ
exception_bit number =
    if (number == 1) || (number == 2) || (number == 3) then 0x01
    else if number == 4 then 0x02
    else if (number == 5) || (number == 6) then 0x04
    else if number == 7 then 0x08 else 0

-- nothing is sent for a message for all
abbrev pub sent_bit : Heard → Ended → ℕ
sent_bit h (Refused code) = if is_broadcast h then 0 else exception_bit (exception_number code)
sent_bit h _ = 0

-- Send event, which there is for a message that had no answer too: bit 6, bit 5 where the port only listens, and the bit of an exception.
abbrev pub sent : Bool → Heard → Ended → ℕ
sent listens h end = 0x40 + bit_if 0x20 listens + sent_bit h end

-- The log after what was heard ended so: the message was received, what it had the port do was done, and the answer was sent. A restart
-- comes behind its answer, and clears the log where it is to. Messages for other devices are no events.
abbrev pub log_after : Bool → List ℕ → Heard → Ended → List ℕ
log_after listens log Noise end = noted (received listens Noise) log
log_after listens log Another end = log
log_after listens log MonitoredAnother end = log
log_after listens log (Asks ListenOnly) end =
    noted (sent true (Asks ListenOnly) end) (noted began_to_listen (noted (received listens (Asks ListenOnly)) log))
log_after listens log (Asks (Restart erases)) end =
    if erases then restarted ∷ [] else
    noted restarted (noted (sent listens (Asks (Restart erases)) end) (noted (received listens (Asks (Restart erases))) log))
log_after listens log h end = noted (sent listens h end) (noted (received listens h) log)

-- A port is told to listen only, until it is restarted.
abbrev pub listens_after : Bool → Heard → Bool
listens_after listens (Asks ListenOnly) = true
listens_after listens (Asks (Restart erases)) = false
listens_after listens _ = listens

-- the journal after what was heard ended so
abbrev pub journal_after : JournalState → Heard → Ended → JournalState
journal_after j h end = record {
  counters = counters_after j.counters h end;
  listens_only = listens_after j.listens_only h;
  log = log_after j.listens_only j.log h end;
}

-- the journal with the message that asks for it
abbrev pub journal_with : JournalState → Heard → JournalState
journal_with j h = record j { counters = with_this j.counters; log = noted (received j.listens_only h) j.log }

-- the journal after all of this was heard
abbrev pub journal_of : JournalState → List Note → JournalState
journal_of j [] = j
journal_of j (n ∷ notes) = journal_of (journal_after j n.heard n.end) notes
