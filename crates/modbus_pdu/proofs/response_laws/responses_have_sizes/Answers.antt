use Rattle.modbus_pdu.proofs.Sizes.{response_length}
use Rattle.modbus_pdu.proofs.response_laws.responses_have_sizes.Goals as goal

pub returns : goal.returns
returns c = response_length
