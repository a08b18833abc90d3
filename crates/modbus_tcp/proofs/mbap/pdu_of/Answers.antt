use Rattle.std.proofs.Common.{arith}
use Rattle.modbus_tcp.proofs.Fronts.{tells_adu}
use Rattle.modbus_tcp.proofs.mbap.pdu_of.Goals as goal

pub returns : goal.returns
returns c = rw (← c.adu_len.ensures) (tells_adu c.args.bytes.now c.args.mbap c.adu_len.result c.requires.bytes c.requires.tells c.requires.some (omega arith) c.requires.ours c.adu_len.ensures)
