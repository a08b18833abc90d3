use Rattle.modbus_server.proofs.RtuLine.{unbroken}
use Rattle.modbus_server.proofs.rtu.InboxFraming.laws.Goals as goal

pub returns-clause-calm : goal.returns-clause-calm
returns-clause-calm c = unbroken c.quiet_lines.ensures.calm
