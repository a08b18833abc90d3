use Rattle.modbus_rtu.proofs.Fronts.{frame_at-append}
use Rattle.modbus_rtu.proofs.laws.frame_stays.Goals as goal

pub returns : goal.returns
returns c = frame_at-append
