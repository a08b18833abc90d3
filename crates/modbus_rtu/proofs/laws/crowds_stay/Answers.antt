use Rattle.modbus_rtu.proofs.Fronts.{crowd_still}
use Rattle.modbus_rtu.proofs.laws.crowds_stay.Goals as goal

pub returns : goal.returns
returns c = crowd_still
