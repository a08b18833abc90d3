use Rattle.modbus_server.proofs.RtuOneFault.{one_fault}
use Rattle.modbus_server.proofs.laws.one_failing_place.Goals as goal

pub returns-clause-one : goal.returns-clause-one
returns-clause-one c = λ bytes cuts frames all stop place at fault other reading has has' first second. one_fault c.crowds_stay.ensures bytes cuts frames all stop reading place at fault other has has' first second

pub returns-clause-none : goal.returns-clause-none
returns-clause-none c = λ bytes cuts frames left all place fault none has. none place fault has
