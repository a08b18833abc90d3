use Rattle.modbus_poll.proofs.Planning.{Planned}
use Rattle.modbus_poll.proofs.planner.plan_sorted.Given as goal

abbrev pub invariant-loop-item : goal.invariant-loop-item
invariant-loop-item l = Planned l.items l.item-index l.plan l.reached
