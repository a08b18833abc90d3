-- How the program ends.
use Rattle.std.specs.Prelude.{◌≡◌, ◌⊎◌, ℕ, List, Some, Result, Ok, Err}
use Rattle.modbus_link.specs.Outside.{Input, Output}
use Rattle.modbus_server.specs.declared.error.ProcessError.{ProcessError}
use Rattle.modbus_server.specs.declared.error.ProcessError.TheVariants.{NoMemory}
use Rattle.modbus_app.specs.declared.words.Form.{Form}
use Rattle.modbus_app.specs.Device.{ServesStreams}
use Rattle.modbus_app.specs.Make.{SumsUp}
use Rattle.modbus_app.specs.Plan.{TellsPlan}
use Rattle.modbus_poll.specs.declared.item.Item.{Item}
use Rattle.modbus_port.specs.Reports.{Reports}
use Rattle.modbus_app.specs.Status.{ending_of, line_of, usage_line}

-- the words are no form: nothing was read or written, and the line was told
pub record IsUsageFault (from to : Input) (sunk sinks said told : Output) : Type 0 where
  pub unread : to ≡ from
  pub unwritten : sinks ≡ sunk
  pub tells : Reports said told usage_line

-- memory was wanting for the device, and nothing was read or written
abbrev pub IsUnserved : Input → Input → Output → Output → Result (Unit {0}) ProcessError → Type 0
IsUnserved from to sunk sinks (Err NoMemory) = (to ≡ from) × (sinks ≡ sunk)
IsUnserved from to sunk sinks _ = ⊥

-- nothing is told where all was served, and else the line of the fault
abbrev pub TellsResult : Output → Output → Result (Unit {0}) ProcessError → Type 0
TellsResult said told (Ok done) = told ≡ said
TellsResult said told (Err error) = Reports said told (line_of error)

-- Serving ended so. All that is said speaks of one and the same answer of the server.
pub record EndsProgram (form : Form) (from to : Input) (sunk sinks said told : Output) (status : ℕ) : Type 0 where
  pub result : Result (Unit {0}) ProcessError
  pub is : ending_of result ≡ Some status
  pub served : ServesStreams form from to sunk sinks result ⊎ IsUnserved from to sunk sinks result
  pub tells : TellsResult said told result

-- So many requests were made and served, and nothing was read.
pub record MakesRequests (count : ℕ) (from to : Input) (sunk sinks said told : Output) (status : ℕ) : Type 0 where
  pub result : Result (Unit {0}) ProcessError
  pub is : ending_of result ≡ Some status
  pub unread : to ≡ from
  pub sums : SumsUp count sunk sinks result
  pub tells : TellsResult said told result

-- It ended with a result of which all this holds, and told it; the status is that of the result.
pub record EndsBy (Holds : Result (Unit {0}) ProcessError → Type 0) (said told : Output) (status : ℕ) : Type 0 where
  pub result : Result (Unit {0}) ProcessError
  pub is : ending_of result ≡ Some status
  pub holds : Holds result
  pub tells : TellsResult said told result

-- The plan for these items was told, and nothing was read.
pub record PlansReads (items : List Item) (from to : Input) (sunk sinks said told : Output) (status : ℕ) : Type 0 where
  pub result : Result (Unit {0}) ProcessError
  pub is : ending_of result ≡ Some status
  pub unread : to ≡ from
  pub plan : TellsPlan items sunk sinks result
  pub tells : TellsResult said told result
