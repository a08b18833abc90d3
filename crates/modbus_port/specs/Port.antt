-- A port of this machine, and what accepts its peers.
use Rattle.std.specs.Prelude.{◌≡◌, ℕ, [], ◌∷◌, Bool, true, Result, Ok}
use Rattle.std.specs.Net.Addr.{IsV4And, ipv4_octets}
use Rattle.std.specs.Net.Socket.{socket_ip, IsPlainSocket}
use Rattle.std.specs.declared.net.SocketAddr.{SocketAddr}
use Rattle.modbus_link.specs.declared.outside.Failed.{Failed}
use Rattle.modbus_link.specs.Listens.{Tally, tally_at_start}
use Rattle.modbus_link.specs.Tcp.{TcpState}
use Rattle.modbus_port.specs.Patient.{PatientState, IsPatient}
use Rattle.modbus_peers.specs.Peers.{PeersState, every_peer, is_served}
use Rattle.modbus_port.specs.Watches.{AcceptsWatched}

-- an acceptor, by what an accept leads to, and how often it failed
pub record Accepting (A K : Type 0) : Type 1 where
  pub accepts : A → Result (K × SocketAddr) Failed → A → Type 0
  pub faults : A → ℕ

abbrev pub accepting : {A K : Type 0} → (A → Result (K × SocketAddr) Failed → A → Type 0) → (A → ℕ) → Accepting A K
accepting accepts faults = record { accepts = accepts; faults = faults }

-- which peers are served stays, and a peer is admitted that is
pub record AdmitsServed (old : PeersState) (peer : SocketAddr) (answer : Bool) (new : PeersState) : Type 0 where
  pub served : answer ≡ true → is_served old peer ≡ true
  pub stays : new ≡ old

-- what accepts the links of a port: watched links over TCP, patiently, of the peers that are served
abbrev pub Port : Type 0
Port = PatientState Tally PeersState

abbrev pub port_accepting : Accepting Port TcpState
port_accepting = record {
  accepts = IsPatient (record { accepts = AcceptsWatched; admits = AdmitsServed; waits = λ old new. new ≡ old });
  faults = λ port. port.tally.faults;
}

-- one that has given nothing, and tries again 300 times
abbrev pub port_for : PeersState → Port
port_for peers = record {
  pair = record { acceptor = tally_at_start; keeper = peers };
  retries = 300;
  tally = tally_at_start;
}

-- one for each peer
abbrev pub port_at_start : Port
port_at_start = port_for every_peer

-- each link that a port gives is that of a peer which is served, by the address that the system told of it, however many accepts went before
abbrev pub GivesServed : Type 0
GivesServed = (old new : Port) (link : TcpState) (peer : SocketAddr)
    → port_accepting.accepts old (Ok (link, peer)) new
    → (is_served old.pair.keeper peer ≡ true) × (new.pair.keeper ≡ old.pair.keeper)

-- the address of this port of this machine, which no other reaches (RFC 1122, section 3.2.1.3)
pub record IsLoopback (port : ℕ) (address : SocketAddr) : Type 0 where
  pub ip : IsV4And (socket_ip address) (λ ip. ipv4_octets ip ≡ 127 ∷ 0 ∷ 0 ∷ 1 ∷ [])
  pub port_is : IsPlainSocket address port
