-- What the objects in memory keep, and what they mean as a source and a sink.
use Rattle.std.specs.Prelude.{◌-◌, ◌^◌, ◌<◌, ◌≤◌, ◌+◌, ◌≡◌, ◌↔◌, ◌⊎◌, min, All, Contains, ℕ, true, List, [], length, drop, ◌==◌, if◌then◌else◌, Result, Ok, Err, IsErr, IfOk}
use Rattle.modbus_link.specs.declared.outside.Cut.{Cut}
use Rattle.modbus_link.specs.Outside.{Input, Output}

-- a source in memory
pub record SourceState : Type 0 where
  -- the whole input
  pub bytes : List ℕ
  -- the totals that no read passes
  pub stops : List ℕ
  -- the numbers of the reads that fail, from 0
  pub fails : List ℕ
  -- of each read that gave bytes, the total after it and the length of its room
  pub cuts : List Cut
  -- how many bytes were given
  pub given : ℕ
  -- how many reads were made, and how many of them failed; both stay at the last number of a counter
  pub calls : ℕ
  pub faults : ℕ

-- a source that has given nothing
abbrev pub source_at_start : List ℕ → List ℕ → List ℕ → SourceState
source_at_start bytes stops fails = record {
  bytes = bytes;
  stops = stops;
  fails = fails;
  cuts = [];
  given = 0;
  calls = 0;
  faults = 0;
}

-- it never fails where no read is named
abbrev pub source_input : SourceState → Input
source_input source = record {
  told = true;
  left = drop source.given source.bytes;
  given = source.given;
  cuts = source.cuts;
  faults = source.faults;
  sure = length source.fails == 0;
  names = [];
}

-- the number after a call, of a counter that stays at its last number
abbrev pub next_count : ℕ → ℕ
next_count calls = min (calls + 1) (2 ^ 64 - 1)

-- the count of faults after a call with this result: one that fails raises it by one
abbrev pub faults_after : {T E : Type 0} → Result T E → ℕ → ℕ
faults_after (Ok _) faults = faults
faults_after (Err _) faults = next_count faults

-- the next call is one that fails
abbrev pub FailsNow : List ℕ → ℕ → Type 0
FailsNow fails calls = Contains fails calls

-- A read of n bytes passes no stop. It gives less than fits and is left only where it ends at a stop.
pub record GivesMost (source : SourceState) (room n : ℕ) : Type 0 where
  pub passes_none : All (λ stop. source.given < stop → source.given + n ≤ stop) source.stops
  pub most : n < min room (length source.bytes - source.given) → Contains source.stops (source.given + n)

-- a read leaves what the source was made with, and counts the call
pub record KeepsSource (old new : SourceState) : Type 0 where
  pub bytes : new.bytes ≡ old.bytes
  pub stops : new.stops ≡ old.stops
  pub fails : new.fails ≡ old.fails
  pub calls : new.calls ≡ next_count old.calls

-- what one read of a source in memory does, beside what a read of any source does
pub record MemoryReads {E : Type 0} (old new : SourceState) (room : ℕ) (result : Result ℕ E) : Type 0 where
  pub fails : IsErr result ↔ FailsNow old.fails old.calls
  pub most : IfOk result (GivesMost old room)
  pub keeps : KeepsSource old new
  pub counts : new.faults ≡ faults_after result old.faults

-- a sink in memory
pub record SinkState : Type 0 where
  -- what was appended
  pub bytes : List ℕ
  -- the most bytes that it holds, and that one write takes
  pub capacity : ℕ
  pub most : ℕ
  -- the numbers of the writes that fail, from 0
  pub fails : List ℕ
  -- how many writes were made, and how many of them failed; both stay at the last number of a counter
  pub calls : ℕ
  pub faults : ℕ

-- a sink that holds nothing
abbrev pub sink_at_start : ℕ → ℕ → List ℕ → SinkState
sink_at_start capacity most fails = record {
  bytes = [];
  capacity = capacity;
  most = most;
  fails = fails;
  calls = 0;
  faults = 0;
}

-- it fails only once it is full where no write is named
abbrev pub sink_output : SinkState → Output
sink_output sink = record {
  told = true;
  bytes = sink.bytes;
  faults = sink.faults;
  sure_below = if length sink.fails == 0 then sink.capacity else 0;
  names = [];
}

-- a write of so many bytes fails: it is named, or there are bytes and no room for any
abbrev pub FailsToTake : SinkState → ℕ → Type 0
FailsToTake sink size = FailsNow sink.fails sink.calls ⊎ ((0 < size) × (sink.capacity ≤ length sink.bytes))

-- how many of so many bytes a write takes
abbrev pub taken_of : SinkState → ℕ → ℕ
taken_of sink size = min size (min sink.most (sink.capacity - length sink.bytes))

-- a write leaves what the sink was made with, and counts the call
pub record KeepsSink (old new : SinkState) : Type 0 where
  pub capacity : new.capacity ≡ old.capacity
  pub most : new.most ≡ old.most
  pub fails : new.fails ≡ old.fails
  pub calls : new.calls ≡ next_count old.calls

-- what one write of a sink in memory does, beside what a write of any sink does
pub record MemoryWrites {E : Type 0} (old new : SinkState) (size : ℕ) (result : Result ℕ E) : Type 0 where
  pub fails : IsErr result ↔ FailsToTake old size
  pub takes : IfOk result (λ count. count ≡ taken_of old size)
  pub keeps : KeepsSink old new
  pub counts : new.faults ≡ faults_after result old.faults
