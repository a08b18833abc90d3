use Rattle.std.proofs.Common.{ℕ, ◌+◌}
use Rattle.modbus_poll.proofs.Reaching.{Reached}
use Rattle.modbus_poll.proofs.limits.end_from.Given as goal

abbrev pub invariant-loop-span : goal.invariant-loop-span
invariant-loop-span l = Reached l.limits l.spans (l.place + 1 + l.span-index) l.address l.end
