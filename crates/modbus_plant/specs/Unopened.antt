-- Why a device has no client, and the address of one that has.
use Rattle.std.specs.Prelude.{◌≡◌, ℕ, List, string_bytes, ⊤}
use Rattle.std.specs.declared.net.ip_addr.IpAddr.{IpAddr}
use Rattle.std.specs.declared.net.socket_addr.SocketAddr.{SocketAddr}
use Rattle.std.specs.Net.Grammar.{IsIpText}
use Rattle.std.specs.Net.ToAddrs as net
use Rattle.modbus_adapter.specs.Deadline.{DeadlinesState}
use Rattle.modbus_reconnect.specs.State.{ReconnectingState}
use Rattle.modbus_map.specs.declared.device.LinkKind.{LinkKind}
use Rattle.modbus_map.specs.declared.device.LinkKind.TheVariants as link
use Rattle.modbus_plant.specs.declared.connector.Refusals.{Refusals}
use Rattle.modbus_plant.specs.declared.linked_client.LinkedClient.{LinkedClient}
use Rattle.modbus_plant.specs.declared.linked_client.LinkedClient.TheVariants as client
use Rattle.modbus_plant.specs.declared.open_error.OpenError.{OpenError}
use Rattle.modbus_plant.specs.declared.open_error.OpenError.TheVariants.{Host, Address, NoAddress, File, NoTerminal}
use Rattle.modbus_plant.specs.Hosts.{IsHostAndPort}

-- a word names no host, or no port
abbrev pub NamesNone : List ℕ → Type 0
NamesNone word = (host : List ℕ) (port : ℕ) → IsHostAndPort word host port → ⊥

-- a host is no address of IPv4 or IPv6, so that the system is asked for one
abbrev pub IsNoAddress : List ℕ → Type 0
IsNoAddress host = (ip : IpAddr) → IsIpText host ip → ⊥

-- where a host is an address of IPv4 or IPv6, this is that one, with this port
abbrev pub IsSpelled : List ℕ → ℕ → SocketAddr → Type 0
IsSpelled host port address = (ip : IpAddr) → IsIpText host ip → net.IsHostAndPort host port address

-- A word names a host and a port. The system has to know an address of that host.
pub record WantsLookup (word : List ℕ) : Type 0 where
  pub host : List ℕ
  pub port : ℕ
  pub named : IsHostAndPort word host port
  pub unspelled : IsNoAddress host

-- A word names a host and a port, and this is an address of that host.
pub record IsAddressOf (word : List ℕ) (address : SocketAddr) : Type 0 where
  pub host : List ℕ
  pub port : ℕ
  pub named : IsHostAndPort word host port
  pub spelled : IsSpelled host port address

-- the system was asked for an address: it told an error, or knows none
abbrev pub IsOfLookup : OpenError → Type 0
IsOfLookup (Address error) = ⊤
IsOfLookup NoAddress = ⊤
IsOfLookup _ = ⊥

-- Why a word has no address: it names no host; or it names one that the system has to know, and does not.
abbrev pub IsWhyNoAddress : List ℕ → OpenError → Type 0
IsWhyNoAddress word Host = NamesNone word
IsWhyNoAddress word (Address error) = WantsLookup word
IsWhyNoAddress word NoAddress = WantsLookup word
IsWhyNoAddress word _ = ⊥

-- why a serial port is not open: the system didn't open its file, or that is no terminal
abbrev pub IsWhyNoPort : OpenError → Type 0
IsWhyNoPort (File error) = ⊤
IsWhyNoPort NoTerminal = ⊤
IsWhyNoPort _ = ⊥

-- why a device has no client, by the link that it is reached by
abbrev pub IsWhyUnopened : LinkKind → OpenError → Type 0
IsWhyUnopened (link.Tcp host) error = IsWhyNoAddress (string_bytes host) error
IsWhyUnopened (link.RtuOverTcp host) error = IsWhyNoAddress (string_bytes host) error
IsWhyUnopened (link.Serial path) error = IsWhyNoPort error

-- a client over TCP connects to an address of the host that its link names
abbrev pub IsReachedBy : {H I L M S E : Type 0} → LinkKind
    → LinkedClient (ReconnectingState (DeadlinesState Refusals) H L) (ReconnectingState (DeadlinesState Refusals) I M) S E → Type 0
IsReachedBy (link.Tcp host) (client.Tcp it) = IsAddressOf (string_bytes host) it.address
IsReachedBy (link.RtuOverTcp host) (client.RtuOverTcp it) = IsAddressOf (string_bytes host) it.address
IsReachedBy (link.Serial path) it = ⊤
IsReachedBy _ it = ⊥
