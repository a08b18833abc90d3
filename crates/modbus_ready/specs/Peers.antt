-- The addresses of peers.
use Rattle.std.specs.Prelude.{ℕ}
use Rattle.std.specs.Net.Addr.{embedded_segments, ipv6_bits}
use Rattle.std.specs.declared.net.ip_addr.IpAddr.{IpAddr}
use Rattle.std.specs.declared.net.ip_addr.IpAddr.TheVariants.{V4, V6}
use Rattle.modbus_ready.specs.declared.peered.PeerAddress.{PeerAddress}

-- the bits of an address; one of IPv4 counts as that of IPv6 which it is mapped to (RFC 4291, section 2.5.5.2)
abbrev pub peer_bits : IpAddr → ℕ
peer_bits (V4 address) = ipv6_bits (record { segments = embedded_segments 0xffff address })
peer_bits (V6 address) = ipv6_bits address

-- the address of a peer, which has one, by whichever of both it comes
abbrev pub address_of : IpAddr → PeerAddress
address_of address = record { bits = peer_bits address }

-- no address
abbrev pub unspecified : PeerAddress
unspecified = record { bits = 0 }
