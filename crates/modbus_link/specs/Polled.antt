-- What a link that may not be ready means, and what one in memory keeps.
use Rattle.std.specs.Prelude.{◌≡◌, ◌≢◌, ◌↔◌, ℕ, ◌≤◌, List, [], Option, Some, None, Result, Ok, Err, Bool, true, false, IsTrue, OnErr, if◌then◌else◌}
use Rattle.modbus_link.specs.declared.polled.Polled.{Polled}
use Rattle.modbus_link.specs.declared.polled.Polled.TheVariants.{Ready, Pending}
use Rattle.modbus_link.specs.Outside.{Outside, Rose}
use Rattle.modbus_link.specs.Passes.{Sends}
use Rattle.modbus_link.specs.Reads.{ReadsPiece}
use Rattle.modbus_link.specs.Memory.{next_count, FailsNow, MemoryReads, MemoryWrites}
use Rattle.modbus_link.specs.Line.{LinkState}

abbrev pub is_pending : {T : Type 0} → Polled T → Bool
is_pending Pending = true
is_pending (Ready value) = false

-- a poll as a read or a write: one that found the link not ready gave or took nothing, as one that failed
abbrev pub at_once : {E : Type 0} → Result (Polled ℕ) E → Result ℕ (Option E)
at_once (Ok (Ready count)) = Ok count
at_once (Ok Pending) = Err None
at_once (Err error) = Err (Some error)

-- a link is not ready only where its count of that rose
abbrev pub Waited : {T E : Type 0} → Result (Polled T) E → ℕ → ℕ → Type 0
Waited (Ok (Ready value)) before now = Unit {0}
Waited (Ok Pending) before now = Rose before now
Waited (Err error) before now = Unit {0}

-- nothing is left of what was to be written where the link was ready all along, and else something is
abbrev pub IsFlushed : {E : Type 0} → List ℕ → Result (Polled (Unit {0})) E → Type 0
IsFlushed left (Ok (Ready done)) = left ≡ []
IsFlushed left (Ok Pending) = left ≢ []
IsFlushed left (Err error) = left ≢ []

-- One read into a room of this length gave this piece, and none where it found the link not ready. Nothing was written.
pub record PollsPiece {E : Type 0} (old new : Outside) (before now room : ℕ) (piece : List ℕ) (result : Result (Polled ℕ) E) : Type 0 where
  pub reads : ReadsPiece old.input new.input room piece (at_once result)
  pub sink : new.output ≡ old.output
  pub cause : OnErr result (Rose old.input.faults new.input.faults)
  -- of the counts of polls that found it not ready
  pub waited : Waited result before now
  pub later : before ≤ now

-- What waited was written as far as the link was ready: a front of it was sent, and the rest is left. Nothing was read.
pub record Flushes {E : Type 0} (old new : Outside) (before now : ℕ) (waiting left : List ℕ) (result : Result (Polled (Unit {0})) E) : Type 0 where
  pub source : new.input ≡ old.input
  pub sends : Sends old.output new.output waiting left
  pub all : IsFlushed left result
  pub cause : OnErr result (Rose old.output.faults new.output.faults)
  -- of the counts of polls that found it not ready
  pub waited : Waited result before now
  pub later : before ≤ now

-- a polled link in memory
pub record PolledLinkState : Type 0 where
  pub link : LinkState
  -- the numbers of the polls that find it not ready, from 0
  pub pending : List ℕ
  -- how many polls were made, and how many of them found it not ready; both stay at the last number of a counter
  pub polls : ℕ
  pub not_ready : ℕ

-- a polled link that nothing was done to
abbrev pub polled_at_start : LinkState → List ℕ → PolledLinkState
polled_at_start link pending = record { link = link; pending = pending; polls = 0; not_ready = 0 }

-- the count of polls that found it not ready, after a poll with this result
abbrev pub waits_after : {E : Type 0} → Result (Polled ℕ) E → ℕ → ℕ
waits_after (Ok (Ready count)) not_ready = not_ready
waits_after (Ok Pending) not_ready = next_count not_ready
waits_after (Err error) not_ready = not_ready

-- a poll is counted, and finds the link not ready exactly where it is named
pub record IsPolled (old new : PolledLinkState) (is_named : Bool) : Type 0 where
  pub named : IsTrue is_named ↔ FailsNow old.pending old.polls
  pub counts : new ≡ record old { polls = next_count old.polls; not_ready = if is_named then next_count old.not_ready else old.not_ready }

-- what a poll did with the link, where it was ready
abbrev pub DoesUnlessPending : {E : Type 0} → (Result ℕ (Option E) → LinkState → LinkState → Type 0) → Result (Polled ℕ) E → LinkState → LinkState → Type 0
DoesUnlessPending Does (Ok (Ready count)) old new = Does (Ok count) old new
DoesUnlessPending Does (Ok Pending) old new = new ≡ old
DoesUnlessPending Does (Err error) old new = Does (Err (Some error)) old new

-- One poll of a polled link in memory: it is not ready exactly where the poll is named, and then the link is as it was; else it does
-- what the link does.
pub record MemoryPolls {E : Type 0} (Does : Result ℕ (Option E) → LinkState → LinkState → Type 0) (old new : PolledLinkState) (result : Result (Polled ℕ) E) : Type 0 where
  pub waits : (result ≡ Ok Pending) ↔ FailsNow old.pending old.polls
  pub does : DoesUnlessPending Does result old.link new.link
  pub pending : new.pending ≡ old.pending
  pub polls : new.polls ≡ next_count old.polls
  pub not_ready : new.not_ready ≡ waits_after result old.not_ready

-- a read into a room of this length, and a write of so many bytes
abbrev pub LinkReads : {E : Type 0} → ℕ → Result ℕ E → LinkState → LinkState → Type 0
LinkReads room result old new = MemoryReads old.source new.source room result × (new ≡ record old { source = new.source })

abbrev pub LinkWrites : {E : Type 0} → ℕ → Result ℕ E → LinkState → LinkState → Type 0
LinkWrites size result old new = MemoryWrites old.sink new.sink size result × (new ≡ record old { sink = new.sink })
