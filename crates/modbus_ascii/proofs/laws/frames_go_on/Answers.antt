use Rattle.modbus_ascii.proofs.Going.{frames-front, frames-closed}
use Rattle.modbus_ascii.proofs.laws.frames_go_on.Goals as goal

pub returns-clause-front : goal.returns-clause-front
returns-clause-front c = frames-front

pub returns-clause-closed : goal.returns-clause-closed
returns-clause-closed c = λ bytes more none. (frames-closed bytes more none).0
