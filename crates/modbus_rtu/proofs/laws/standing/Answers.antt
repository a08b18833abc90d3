use Rattle.modbus_rtu.proofs.Standing.{stands_opening, stands_frame, stands_waiting, used_up, first_crowd, found_crowd}
use Rattle.modbus_rtu.proofs.Carrying.{stands_after_read, used_up_after}
use Rattle.modbus_rtu.proofs.laws.standing.Goals as goal

pub returns-clause-opening : goal.returns-clause-opening
returns-clause-opening c = stands_opening

pub returns-clause-frame : goal.returns-clause-frame
returns-clause-frame c = λ bytes cuts held taken start n s next. stands_frame bytes cuts held taken s start n next

pub returns-clause-waiting : goal.returns-clause-waiting
returns-clause-waiting c = λ bytes cuts held taken dropped s next. (stands_waiting bytes cuts held taken s dropped next, used_up bytes cuts held taken s dropped next)

pub returns-clause-crowd : goal.returns-clause-crowd
returns-clause-crowd c = λ bytes cuts held taken s next. (s.place, first_crowd bytes cuts held taken s next)

pub returns-clause-read : goal.returns-clause-read
returns-clause-read c = stands_after_read

pub returns-clause-found : goal.returns-clause-found
returns-clause-found c = λ bytes cuts held taken k s crowd none_between. found_crowd bytes cuts held taken s k crowd none_between

pub returns-clause-used_up : goal.returns-clause-used_up
returns-clause-used_up c = used_up_after
