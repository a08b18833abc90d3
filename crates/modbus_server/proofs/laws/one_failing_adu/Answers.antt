use Rattle.modbus_server.proofs.TcpFaults.{one_adu_fault}
use Rattle.modbus_server.proofs.laws.one_failing_adu.Goals as goal

pub returns-clause-one : goal.returns-clause-one
returns-clause-one c = λ adus kind all place at fault other has has' first second. one_adu_fault adus kind all place at fault other has has' first second

pub returns-clause-none : goal.returns-clause-none
returns-clause-none c = λ adus kind left all place fault none has. none place fault has
