use Rattle.modbus_ascii.proofs.Holding.{stands-opening}
use Rattle.modbus_ascii.proofs.buffer.AsciiBufferFraming.open.Goals as goal

pub returns-in_err-with_capacity-clause-stands : goal.returns-in_err-with_capacity-clause-stands
returns-in_err-with_capacity-clause-stands c = stands-opening
