use Rattle.std.proofs.Common.{length}
use Rattle.modbus_client.specs.Call.{holding}
use Rattle.modbus_local.proofs.Exchanging.{Going}
use Rattle.modbus_local.proofs.local.receive_all.Given as goal

abbrev pub invariant-pieces : goal.invariant-pieces
invariant-pieces g l = Going g.P.Protocol.protocol l.fn.replies (holding l.fn.call l.fn.held) (holding l.call l.held) l.left

abbrev pub decreases-pieces : goal.decreases-pieces
decreases-pieces g l = length l.left
