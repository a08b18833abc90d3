use Rattle.modbus_pdu.proofs.Sizes.{request_length}
use Rattle.modbus_pdu.proofs.laws.requests_have_sizes.Goals as goal

pub returns : goal.returns
returns c = request_length
