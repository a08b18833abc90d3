use Rattle.modbus_frame.specs.Meaning.{meaning}
use Rattle.modbus_pdu.proofs.Again.{again}
use Rattle.modbus_pdu.proofs.laws.request_reads_back.Goals as goal

pub returns : goal.returns
returns c = again (meaning c.args.request.now) c.request_is_in_range.ensures
