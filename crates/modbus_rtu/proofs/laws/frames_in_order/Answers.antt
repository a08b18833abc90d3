use Rattle.modbus_rtu.proofs.Fronts.{frames_around}
use Rattle.modbus_rtu.proofs.laws.frames_in_order.Goals as goal

pub returns : goal.returns
returns c = frames_around
