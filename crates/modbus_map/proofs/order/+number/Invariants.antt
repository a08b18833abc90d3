use Rattle.std.proofs.Common.{length}
use Rattle.modbus_map.proofs.order.+number.Given as goal

abbrev pub decreases-number : goal.decreases-number
decreases-number l = length l.words.now
