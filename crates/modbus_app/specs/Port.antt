-- How a program that listens on a port ends.
use Rattle.std.specs.Prelude.{◌≡◌, ◌⊎◌, ℕ, IfOk}
use Rattle.std.specs.declared.net.SocketAddr.{SocketAddr}
use Rattle.modbus_link.specs.Line.{LinkMeaning, meaning_of}
use Rattle.modbus_link.specs.Memory.{faults_after}
use Rattle.modbus_link.specs.Outside.{Output, Outside, untold_input, untold_output}
use Rattle.modbus_link.specs.Tcp.{TcpState, tcp_at_start}
use Rattle.modbus_client.specs.Connects.{ConnectorMeaning, connector_of}
use Rattle.modbus_server.specs.declared.error.ProcessError.TheVariants.{NoMemory}
use Rattle.modbus_store.specs.Passes.{Shared, Pass, first_pass}
use Rattle.modbus_port.specs.declared.listen.Framing.{Framing}
use Rattle.modbus_app.specs.Device.{shared_opening}
use Rattle.modbus_app.specs.Gateway.{ForwardsTo}
use Rattle.modbus_app.specs.Listen.{own_pass, ListenedOver}
use Rattle.modbus_app.specs.Status.{line_of, bind_line}
use Rattle.modbus_port.specs.Port.{Port, port_accepting, port_at_start, IsLoopback}
use Rattle.modbus_port.specs.Reports.{Reports}

-- such a port, and the first pass of a shared store
abbrev pub begun : Shared → Port × Pass
begun store = (port_at_start, first_pass store.table store.opening)

-- The links of a port were served over one shared store, which began as the device of this framing.
pub record ServesDevice {H : Type 0} (framing : Framing) (on_error : H) (said told : Output) (status : ℕ)
    : Type 0 where
  pub store : Shared
  pub opens : store.opening ≡ shared_opening framing
  pub after : Port × Pass
  pub listened : ListenedOver own_pass port_accepting on_error (begun store) after said told status

-- memory was wanting, and its line was told
abbrev pub WantsMemoryForPort : Output → Output → ℕ → Type 0
WantsMemoryForPort said told status = (status ≡ 11) × Reports said told (line_of NoMemory)

-- the system refused a listener, as it may when out of memory, and the line of the status was told
abbrev pub RefusesPort : Output → Output → ℕ → Type 0
RefusesPort said told status = WantsMemoryForPort said told status ⊎ ((status ≡ 15) × Reports said told bind_line)

-- a listener of a port ended: memory was wanting for the device, or it served its links
abbrev pub ServesPort : {H : Type 0} → Framing → H → Output → Output → ℕ → Type 0
ServesPort framing on_error said told status = WantsMemoryForPort said told status ⊎ ServesDevice framing on_error said told status

-- a program that listens ended: the system refused the listener, or it served
abbrev pub ListensAt : {H : Type 0} → Framing → H → Output → Output → ℕ → Type 0
ListensAt framing on_error said told status = RefusesPort said told status ⊎ ServesPort framing on_error said told status

-- what connects to a port: a connector over TCP, whose link is new
abbrev pub tcp_connecting : ConnectorMeaning ℕ TcpState
tcp_connecting = connector_of (λ old address timeout result new. IfOk result (λ link. link ≡ tcp_at_start) × (new ≡ faults_after result old)) (λ faults. faults)

abbrev pub tcp_line : LinkMeaning TcpState
tcp_line = meaning_of (λ link. untold_input link.read_faults) (λ link. untold_output link.write_faults) (λ link. link.line)

-- a program that forwards ended: it made one connection over TCP to this port of this machine
abbrev pub ForwardsToPort : ℕ → Outside → Outside → Output × Output → ℕ → Type 0
ForwardsToPort port old new said status = (address : SocketAddr) × IsLoopback port address
    × (after : ℕ) × ForwardsTo tcp_connecting tcp_line (0, after) address old new said status
