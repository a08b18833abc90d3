use Rattle.modbus_field.proofs.OneReading.{last_alone}
use Rattle.modbus_field.proofs.burst.laws.last_alone_is_answered.Goals as goal

pub returns : goal.returns
returns c = last_alone
