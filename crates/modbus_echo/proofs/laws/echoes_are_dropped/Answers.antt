use Rattle.modbus_echo.proofs.Known.{drops}
use Rattle.modbus_echo.proofs.laws.echoes_are_dropped.Goals as goal

pub returns : goal.returns
returns g c = drops g.L.Ends.input g.L.PolledLink.not_ready
