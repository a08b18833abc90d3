use Rattle.modbus_rtu.proofs.Quiet.{none_crowded, taken_of_these, none_held}
use Rattle.modbus_rtu.proofs.laws.quiet_lines.Goals as goal

pub returns-clause-calm : goal.returns-clause-calm
returns-clause-calm c = λ read rest cuts messages k quiet crowd. none_crowded read rest messages quiet cuts k crowd

pub returns-clause-next : goal.returns-clause-next
returns-clause-next c = λ read rest cuts messages before message quiet taken. taken_of_these read rest messages quiet cuts before message taken

pub returns-clause-used : goal.returns-clause-used
returns-clause-used c = none_held
