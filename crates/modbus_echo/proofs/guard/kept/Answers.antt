use Rattle.modbus_echo.proofs.Within.{front_kept}
use Rattle.modbus_echo.proofs.guard.kept.Goals as goal

pub returns : goal.returns
returns c = front_kept _ c.args.bytes.now c.min.result c.min.ensures c.in-Ok.ensures.0
