-- The words that say which peers are served.
use Rattle.std.specs.Prelude.{◌≡◌, ◌++◌, ◌==◌, ℕ, Bool, true, false, List, [], ◌∷◌, Option, Some, None, if◌then◌else◌}
use Rattle.std.specs.List.{before_first, after_first}
use Rattle.std.specs.Net.Grammar.{IsIpText}
use Rattle.std.specs.declared.net.ip_addr.IpAddr.{IpAddr}
use Rattle.std.specs.declared.net.ip_addr.IpAddr.TheVariants.{V4, V6}
use Rattle.modbus_poll.specs.Notation.{number_within}
use Rattle.modbus_peers.specs.Peers.{PeersState, every_peer}
use Rattle.modbus_peers.specs.declared.peers.Network.{Network}
use Rattle.modbus_rule_words.specs.RuleWords.{has}

-- how many bits an address has
abbrev pub most_bits : IpAddr → ℕ
most_bits (V4 address) = 32
most_bits (V6 address) = 128

-- what stands before the slash of a word, or the whole word
abbrev pub address_text : List ℕ → List ℕ
address_text word = if has 47 word then before_first (λ b. b == 47) word else word

-- the number behind the slash of a word, up to the bits of the address, or all of these
abbrev pub bits_named : IpAddr → List ℕ → Option ℕ
bits_named address word = if has 47 word then number_within 3 0 (most_bits address) (after_first (λ b. b == 47) word) else Some (most_bits address)

-- a word names this network
pub record IsNetworkNamed (word : List ℕ) (network : Network) : Type 0 where
  pub address : IsIpText (address_text word) network.address
  pub bits : bits_named network.address word ≡ Some network.bits

-- the network that a word names is added behind the others; a word that names none adds none
abbrev pub AddsNetwork : List ℕ → List Network → Bool → List Network → Type 0
AddsNetwork word old true new = (network : Network) × IsNetworkNamed word network × (new ≡ old ++ network ∷ [])
AddsNetwork word old false new = new ≡ old

-- each peer is served where no network was named
abbrev pub peers_said : List Network → PeersState
peers_said [] = every_peer
peers_said (network ∷ networks) = record { networks = Some (network ∷ networks) }
