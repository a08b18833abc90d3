use Rattle.modbus_rtu.proofs.TwoPieces.{crowd_on}
use Rattle.modbus_rtu.proofs.front.find_in_two.Goals as goal

pub returns-in-Err : goal.returns-in-Err
returns-in-Err c = crowd_on c.args.first.now c.args.second.now _ c.in-Err.ensures
