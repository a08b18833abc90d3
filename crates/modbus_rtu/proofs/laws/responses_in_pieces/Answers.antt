use Rattle.modbus_rtu.proofs.Responses.{frame_good, front_open}
use Rattle.modbus_rtu.proofs.laws.responses_in_pieces.Goals as goal

pub returns-clause-frame : goal.returns-clause-frame
returns-clause-frame c = frame_good

pub returns-clause-front : goal.returns-clause-front
returns-clause-front c = front_open
