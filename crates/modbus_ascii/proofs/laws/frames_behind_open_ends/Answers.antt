use Rattle.modbus_ascii.proofs.Behind.{behind-open, behind-long}
use Rattle.modbus_ascii.proofs.laws.frames_behind_open_ends.Goals as goal

pub returns-clause-behind : goal.returns-clause-behind
returns-clause-behind c = behind-open

pub returns-clause-long : goal.returns-clause-long
returns-clause-long c = behind-long
