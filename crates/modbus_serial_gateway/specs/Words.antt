-- The words of the command line.
use Rattle.std.specs.Prelude.{◌≡◌, ℕ, List, Option, Some, None}
use Rattle.std.specs.Net.Grammar.{IsSocketText}
use Rattle.std.specs.declared.net.SocketAddr.{SocketAddr}
use Rattle.modbus_poll.specs.Notation.{number_within}
use Rattle.modbus_port.specs.Port.{IsLoopback}
use Rattle.modbus_serial_gateway.specs.declared.words.Task.{Task}

-- a port, and a time in milliseconds
abbrev pub nonzero_port : List ℕ → Option ℕ
nonzero_port text = number_within 5 1 65535 text

abbrev pub time_named : List ℕ → Option ℕ
time_named text = number_within 5 1 60000 text

-- the address of a word: a port is that of this machine, and any other word writes an address and a port
abbrev pub IsPlaceBy : Option ℕ → List ℕ → SocketAddr → Type 0
IsPlaceBy (Some port) word address = IsLoopback port address
IsPlaceBy None word address = IsSocketText word address

abbrev pub IsPlace : List ℕ → SocketAddr → Type 0
IsPlace word address = IsPlaceBy (nonzero_port word) word address

-- what two words ask for
abbrev pub IsTask : List ℕ → List ℕ → Task → Type 0
IsTask place millis task = IsPlace place task.address × (time_named millis ≡ Some task.millis)
