-- Addresses of hosts, and why there are none.
use Rattle.std.proofs.Common.{◌≡◌, ℕ, suc, zero, ◌+◌, List, [], ◌∷◌, take, Result, Ok, Err, ap, sym, arith}
use Rattle.std.specs.Result.{IfOk, IfErr}
use Rattle.std.specs.declared.net.socket_addr.SocketAddr.{SocketAddr}
use Rattle.modbus_plant.specs.declared.open_error.OpenError.{OpenError}
use Rattle.modbus_plant.specs.declared.open_error.OpenError.TheVariants.{Host, Address, NoAddress, File, NoTerminal}
use Rattle.modbus_plant.specs.Hosts.{IsHostAndPort}
use Rattle.modbus_plant.specs.Unopened.{IsSpelled, IsNoAddress, IsOfLookup, IsAddressOf, IsWhyNoAddress}

abbrev head_or : SocketAddr → List SocketAddr → SocketAddr
head_or other [] = other
head_or other (address ∷ addresses) = address

-- the only one of some addresses is the first one
pub only_first : (count left : ℕ) (others : List SocketAddr) (only first : SocketAddr) → take count (first ∷ others) ≡ only ∷ [] → left + 1 ≡ count → only ≡ first
only_first zero left others only first taken more = absurd (omega (arith, more))
only_first (suc count) left others only first taken more = sym (ap (head_or first) taken)

module _ (word host : List ℕ) (port : ℕ) (named : IsHostAndPort word host port) where
  pub address_found : (result : Result SocketAddr OpenError) → IfOk result (IsSpelled host port) → IfOk result (IsAddressOf word)
  address_found (Ok address) spelled = record { host = host; port = port; named = named; spelled = spelled }
  address_found (Err error) spelled = tt

  pub address_missed : (result : Result SocketAddr OpenError) → IfErr result IsOfLookup → IfErr result (λ error. IsNoAddress host) → IfErr result (IsWhyNoAddress word)
  address_missed (Ok address) why none = tt
  address_missed (Err Host) why none = absurd why
  address_missed (Err (Address error)) why none = record { host = host; port = port; named = named; unspelled = none }
  address_missed (Err NoAddress) why none = record { host = host; port = port; named = named; unspelled = none }
  address_missed (Err (File error)) why none = absurd why
  address_missed (Err NoTerminal) why none = absurd why
