use Rattle.modbus_ascii.proofs.Alone.{front-alone}
use Rattle.modbus_ascii.proofs.laws.fronts_deliver_nothing.Goals as goal

pub returns : goal.returns
returns c = λ message bytes rest framed is some. front-alone message.header message.pdu bytes rest framed is some
