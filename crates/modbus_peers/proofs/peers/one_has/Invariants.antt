use Rattle.std.proofs.Common.{◌≡◌, drop}
use Rattle.modbus_peers.specs.Peers.{one_has}
use Rattle.modbus_peers.proofs.peers.one_has.Given as goal

abbrev pub invariant-loop-network : goal.invariant-loop-network
invariant-loop-network l = one_has l.networks l.bits ≡ one_has (drop l.network-index l.networks) l.bits
