use Rattle.modbus_field.proofs.Reserved.{refused, others}
use Rattle.modbus_field.proofs.stream.laws.reserved_codes_are_refused.Goals as goal

pub returns-clause-refused : goal.returns-clause-refused
returns-clause-refused g c = refused g.S.Service.answers g.S.Service.takes_memory

pub returns-clause-others : goal.returns-clause-others
returns-clause-others g c = others
