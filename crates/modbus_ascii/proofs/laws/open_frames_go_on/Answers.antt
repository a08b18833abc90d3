use Rattle.modbus_ascii.proofs.OpenFrames.{open_frames-deliver, open_frames-left}
use Rattle.modbus_ascii.proofs.laws.open_frames_go_on.Goals as goal

pub returns-clause-delivers : goal.returns-clause-delivers
returns-clause-delivers c = open_frames-deliver

pub returns-clause-left : goal.returns-clause-left
returns-clause-left c = open_frames-left
