use Rattle.std.proofs.Common.{sym}
use Rattle.modbus_ascii.proofs.Alone.{stream-delivers}
use Rattle.modbus_ascii.proofs.laws.frames_alone.Goals as goal

pub returns : goal.returns
returns c = λ messages all. let d = stream-delivers messages all in (sym d.0, d.1)
