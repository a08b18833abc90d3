use Rattle.modbus_pdu.proofs.Sizes.{packed_length}
use Rattle.modbus_pdu.proofs.Unpacked.{packed_bit, packed_back}
use Rattle.modbus_pdu.proofs.laws.coils_are_packed.Goals as goal

pub returns-clause-size : goal.returns-clause-size
returns-clause-size c = packed_length

pub returns-clause-bits : goal.returns-clause-bits
returns-clause-bits c = packed_bit

pub returns-clause-unpacked : goal.returns-clause-unpacked
returns-clause-unpacked c = packed_back
