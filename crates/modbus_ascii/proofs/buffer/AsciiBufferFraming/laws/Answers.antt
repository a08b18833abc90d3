use Rattle.modbus_ascii.proofs.Buffering.{next-frame}
use Rattle.modbus_ascii.proofs.buffer.AsciiBufferFraming.laws.Goals as goal

pub returns-clause-next : goal.returns-clause-next
returns-clause-next c = next-frame
