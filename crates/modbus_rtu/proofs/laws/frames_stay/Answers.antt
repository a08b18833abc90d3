use Rattle.modbus_rtu.proofs.Fronts.{front_frames, front_delivered, front_below, front_stop, frames_same}
use Rattle.modbus_rtu.proofs.laws.frames_stay.Goals as goal

pub returns-clause-front : goal.returns-clause-front
returns-clause-front c = front_frames

pub returns-clause-delivered : goal.returns-clause-delivered
returns-clause-delivered c = λ bytes more frames all stop last f l whole lt. front_delivered bytes more frames all stop last l whole f lt

pub returns-clause-below : goal.returns-clause-below
returns-clause-below c = front_below

pub returns-clause-stop : goal.returns-clause-stop
returns-clause-stop c = front_stop

pub returns-clause-same : goal.returns-clause-same
returns-clause-same c = frames_same
