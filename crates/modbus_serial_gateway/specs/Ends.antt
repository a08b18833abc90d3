-- How a gateway ends that listens: with status 1, and a text for each cause.
use Rattle.std.specs.Prelude.{◌≡◌, ◌⊎◌, ℕ, List, codes}
use Rattle.modbus_link.specs.Outside.{Output}
use Rattle.modbus_server.specs.declared.error.ServeError.{ServeError}
use Rattle.modbus_server.specs.declared.error.ServeError.TheVariants.{AcceptFault, Connect, SpawnFault, NoMemory}
use Rattle.modbus_port.specs.Reports.{Reports}
use Rattle.modbus_gateway.specs.declared.service.ServicesOut.{ServicesOut}

abbrev pub no_memory_line : List ℕ
no_memory_line = codes "modbus_serial_gateway: no memory\n"

abbrev pub line_of : ServeError ServicesOut → List ℕ
line_of AcceptFault = codes "modbus_serial_gateway: accept fault\n"
line_of SpawnFault = codes "modbus_serial_gateway: spawn fault\n"
line_of (Connect none_left) = codes "modbus_serial_gateway: services out\n"
line_of NoMemory = no_memory_line

abbrev pub bind_line : List ℕ
bind_line = codes "modbus_serial_gateway: bind fault\n"

-- A listener did not go on for this reason, whose line it told.
abbrev pub HasEnded : Output → Output → ℕ → Type 0
HasEnded said told status = (error : ServeError ServicesOut) × (status ≡ 1) × Reports said told (line_of error)

-- the system refused a listener, as it may where it is out of memory
abbrev pub IsRefused : Output → Output → ℕ → Type 0
IsRefused said told status = (status ≡ 1) × (Reports said told bind_line ⊎ Reports said told no_memory_line)

-- the system refused the listener, or it ended
abbrev pub IsRefusedOrEnded : Output → Output → ℕ → Type 0
IsRefusedOrEnded said told status = IsRefused said told status ⊎ HasEnded said told status
