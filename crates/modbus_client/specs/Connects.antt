-- What connecting to a TCP device does.
use Rattle.std.specs.Prelude.{◌≡◌, ℕ, Option, Result, Ok, Err, OnErr}
use Rattle.std.specs.declared.net.SocketAddr.{SocketAddr}
use Rattle.std.specs.declared.time.Duration.{Duration}
use Rattle.modbus_link.specs.Outside.{Rose}
use Rattle.modbus_link.specs.Line.{LinkMeaning, KeepsEnds}
use Rattle.modbus_link.specs.declared.outside.Failed.{Failed}
use Rattle.modbus_frame.specs.declared.fault.ConnectFault.{ConnectFault}
use Rattle.modbus_client.specs.State.{ClientState, attached_client}
use Rattle.modbus_client.specs.Tcp.{tcp_heading}

-- A client that was connected: it is attached to its link for this unit, with this timeout, and asks under transaction 0 first. The link
-- is as it was given, but for the timeout, which is set on it too.
pub record IsConnected {L : Type 0} (M : LinkMeaning L) (unit : ℕ) (timeout : Option Duration) (given : L) (client : ClientState ℕ L) : Type 0 where
  pub state : client ≡ record (attached_client tcp_heading client.link unit) { timeout = timeout }
  pub timed : M.line client.link ≡ record (M.line given) { timeout = timeout }
  pub ends : KeepsEnds M given client.link

-- what is answered, by what the connector gave
abbrev pub ConnectsAs : {L : Type 0} → LinkMeaning L → ℕ → Option Duration → Result L Failed → Result (ClientState ℕ L) ConnectFault → Type 0
ConnectsAs M unit timeout (Ok given) (Ok client) = IsConnected M unit timeout given client
ConnectsAs M unit timeout (Ok given) (Err fault) = ⊥
ConnectsAs M unit timeout (Err failed) (Ok client) = ⊥
ConnectsAs M unit timeout (Err failed) (Err fault) = Unit {0}

-- what a connector means: what a connection may lead to, and how often it failed
pub record ConnectorMeaning (C L : Type 0) : Type 1 where
  pub connects : C → SocketAddr → Option Duration → Result L Failed → C → Type 0
  pub faults : C → ℕ

-- the meaning of connectors of a type, by its parts
abbrev pub connector_of : {C L : Type 0} → (C → SocketAddr → Option Duration → Result L Failed → C → Type 0) → (C → ℕ) → ConnectorMeaning C L
connector_of connects faults = record { connects = connects; faults = faults }

-- Connecting makes one connection to this address within this timeout, and gives a client of its link. It fails only where the
-- connector's count of faults rose.
pub record Connects {C L : Type 0} (K : ConnectorMeaning C L) (M : LinkMeaning L)
    (old : C) (address : SocketAddr) (unit : ℕ) (timeout : Option Duration) (result : Result (ClientState ℕ L) ConnectFault) (new : C) : Type 0 where
  pub given : Result L Failed
  pub made : K.connects old address timeout given new
  pub client : ConnectsAs M unit timeout given result
  pub fault : OnErr result (Rose (K.faults old) (K.faults new))
