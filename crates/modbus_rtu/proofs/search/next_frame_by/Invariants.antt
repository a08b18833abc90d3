use Rattle.std.proofs.Common.{◌≤◌, length}
use Rattle.modbus_rtu.specs.Frame.{judged_by}
use Rattle.modbus_rtu.specs.Next.{AreBadBy}
use Rattle.modbus_rtu.proofs.search.next_frame_by.Given as goal

abbrev pub invariant-loop-start : goal.invariant-loop-start
invariant-loop-start g l = record { bad : AreBadBy (judged_by g.R.LengthRule.head) l.held l.start; within : l.start ≤ length l.held }
