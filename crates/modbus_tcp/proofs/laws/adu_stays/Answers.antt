use Rattle.modbus_tcp.proofs.Fronts.{none_unfinished}
use Rattle.modbus_tcp.proofs.laws.adu_stays.Goals as goal

pub returns-clause-none : goal.returns-clause-none
returns-clause-none c = none_unfinished
