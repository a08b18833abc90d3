-- How an echo is taken off.
use Rattle.std.specs.Prelude.{◌≡◌, ◌≢◌, ◌≤◌, ℕ, List, [], length, take, IsTrue, Result, Ok, Err}
use Rattle.modbus_link.specs.declared.polled.Polled.{Polled}
use Rattle.modbus_link.specs.declared.polled.Polled.TheVariants.{Ready, Pending}
use Rattle.modbus_link.specs.Outside.{Input, Rose}
use Rattle.modbus_adapter.specs.declared.echo.NoEcho.{NoEcho}
use Rattle.modbus_adapter.specs.declared.echo.NoEcho.TheVariants.{Silence, End, Fault, Collision}
use Rattle.modbus_adapter.specs.Echo.{DropsEcho}

-- the poll that told so of silences
abbrev pub silences_by : Result (Unit {0}) NoEcho → Result (Polled ℕ) NoEcho
silences_by (Ok done) = Ok (Ready 0)
silences_by (Err Silence) = Ok Pending
silences_by (Err other) = Err other

-- the bytes in place of the echo, of a room that was read into
abbrev pub came_by : Result (Unit {0}) NoEcho → List ℕ → List ℕ
came_by (Err (Collision count)) room = take count room
came_by result room = []

-- why no more of the echo came, by the states of the source before and after
abbrev pub IsWhy : Input → Input → List ℕ → Result (Unit {0}) NoEcho → Type 0
IsWhy from to room (Ok done) = Unit {0}
IsWhy from to room (Err Silence) = Unit {0}
IsWhy from to room (Err End) = IsTrue from.told → to.left ≡ []
IsWhy from to room (Err Fault) = Rose from.faults to.faults
IsWhy from to room (Err (Collision count)) = (count ≤ length room) × (take count room ≢ [])

-- some of an echo came, or why none did
pub record BringsEcho (from to : Input) (owed left room : List ℕ) (result : Result (Unit {0}) NoEcho) : Type 0 where
  pub drops : DropsEcho from to owed left (came_by result room)
  pub why : IsWhy from to room result

-- nothing is owed any more where all went well
abbrev pub IsOff : List ℕ → Result (Unit {0}) NoEcho → Type 0
IsOff left (Ok done) = left ≡ []
IsOff left (Err reason) = Unit {0}

-- all of an echo was taken off, or why not
pub record TakesEchoOff (from to : Input) (owed left room : List ℕ) (result : Result (Unit {0}) NoEcho) : Type 0 where
  pub drops : DropsEcho from to owed left (came_by result room)
  pub why : IsWhy from to room result
  pub all : IsOff left result
