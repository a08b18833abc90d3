-- What a link means beside its two ends.
use Rattle.std.specs.Prelude.{◌≡◌, ◌≤◌, ℕ, Bool, true, false, None, Option, Result, Ok, Err, IsTrue, OnOk, OnErr}
use Rattle.std.specs.declared.time.Duration.{Duration}
use Rattle.modbus_link.specs.Outside.{Input, Output, Rose}
use Rattle.modbus_link.specs.Memory.{SourceState, SinkState, next_count}

pub record Line : Type 0 where
  -- how often a shutdown failed
  pub faults : ℕ
  -- whether a shutdown answered Ok
  pub is_down : Bool
  -- the timeout that was set last; none at first
  pub timeout : Option Duration

-- a link that nothing was done to
abbrev pub line_at_start : Line
line_at_start = record { faults = 0; is_down = false; timeout = None }

-- a link in memory
pub record LinkState : Type 0 where
  pub source : SourceState
  pub sink : SinkState
  pub shutdown_fails : Bool
  pub line : Line

-- the line after a shutdown with this result
abbrev pub shut : {T E : Type 0} → Result T E → Line → Line
shut (Ok _) line = record line { is_down = true }
shut (Err _) line = record line { faults = next_count line.faults }

-- What a shutdown of any link does to its line: it leaves the timeout, and the count of faults never falls. One that answers Ok leaves the
-- link down, and counts no fault; one that fails counts it, and leaves the link down or up as it was.
pub record Shuts {T E : Type 0} (old : Line) (result : Result T E) (new : Line) : Type 0 where
  pub down : OnOk result (IsTrue new.is_down)
  pub stays : OnErr result (new.is_down ≡ old.is_down)
  pub no_fault : OnOk result (new.faults ≡ old.faults)
  pub cause : OnErr result (Rose old.faults new.faults)
  pub later : old.faults ≤ new.faults
  pub timeout : new.timeout ≡ old.timeout

-- what a link means: the input that it gives, the output that it takes, and its line
pub record LinkMeaning (L : Type 0) : Type 0 where
  pub input : L → Input
  pub output : L → Output
  pub line : L → Line

-- the meaning of links of a type, by its parts
abbrev pub meaning_of : {L : Type 0} → (L → Input) → (L → Output) → (L → Line) → LinkMeaning L
meaning_of input output line = record { input = input; output = output; line = line }

-- the parts of a link that neither a disconnection nor a timeout touches: what it will give, and what it took
pub record KeepsEnds {L : Type 0} (M : LinkMeaning L) (old new : L) : Type 0 where
  pub source : M.input new ≡ M.input old
  pub sink : M.output new ≡ M.output old
