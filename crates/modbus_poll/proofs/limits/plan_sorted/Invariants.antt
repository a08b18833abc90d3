use Rattle.modbus_poll.proofs.Reading.{Made}
use Rattle.modbus_poll.proofs.limits.plan_sorted.Given as goal

abbrev pub invariant-loop-place : goal.invariant-loop-place
invariant-loop-place l = Made l.limits l.spans l.place l.plan l.reached
