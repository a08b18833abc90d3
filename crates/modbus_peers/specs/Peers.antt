-- Which peers are served, by their addresses.
use Rattle.std.specs.Prelude.{◌≡◌, ℕ, ◌-◌, ◌/◌, ◌^◌, ◌==◌, ◌||◌, nat_lt, Bool, true, false, if◌then◌else◌, List, [], ◌∷◌, Option, Some, None}
use Rattle.std.specs.Net.Addr.{embedded_segments, ipv6_bits}
use Rattle.std.specs.Net.Socket.{socket_ip}
use Rattle.std.specs.declared.net.SocketAddr.{SocketAddr}
use Rattle.std.specs.declared.net.ip_addr.IpAddr.{IpAddr}
use Rattle.std.specs.declared.net.ip_addr.IpAddr.TheVariants.{V4, V6}
use Rattle.modbus_peers.specs.declared.peers.Network.{Network}

-- the bits of an address; one of IPv4 counts as that of IPv6 which it is mapped to (RFC 4291, section 2.5.5.2)
abbrev pub bits_of : IpAddr → ℕ
bits_of (V4 address) = ipv6_bits (record { segments = embedded_segments 0xffff address })
bits_of (V6 address) = ipv6_bits address

-- how many bits the addresses of a network need not have in common
abbrev pub host_bits_of : IpAddr → ℕ → ℕ
host_bits_of (V4 address) bits = 32 - bits
host_bits_of (V6 address) bits = 128 - bits

abbrev pub host_bits : Network → ℕ
host_bits network = host_bits_of network.address network.bits

-- the address of these bits is one of a network: all bits before those agree
abbrev pub has_bits : Network → ℕ → Bool
has_bits network bits =
    if nat_lt (host_bits network) 128
    then (bits_of network.address / 2 ^ host_bits network == bits / 2 ^ host_bits network)
    else true

abbrev pub one_has : List Network → ℕ → Bool
one_has [] bits = false
one_has (network ∷ networks) bits = has_bits network bits || one_has networks bits

-- an address is one of a network
abbrev pub is_in : Network → IpAddr → Bool
is_in network address = has_bits network (bits_of address)

-- which peers are served: those of these networks, or each
pub record PeersState : Type 0 where
  pub networks : Option (List Network)

abbrev pub every_peer : PeersState
every_peer = record { networks = None }

abbrev pub may_come_from : Option (List Network) → ℕ → Bool
may_come_from None bits = true
may_come_from (Some networks) bits = one_has networks bits

-- a peer may come whose address has these bits
abbrev pub may_come_by : PeersState → ℕ → Bool
may_come_by peers bits = may_come_from peers.networks bits

abbrev pub may_come : PeersState → IpAddr → Bool
may_come peers address = may_come_by peers (bits_of address)

-- a peer is served that may come, by its address
abbrev pub is_served : PeersState → SocketAddr → Bool
is_served peers peer = may_come peers (socket_ip peer)
