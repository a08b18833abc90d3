use Rattle.std.proofs.Common.{length}
use Rattle.modbus_poll.proofs.value.+number.Given as goal

abbrev pub decreases-number : goal.decreases-number
decreases-number l = length l.words.now
