use Rattle.modbus_field.proofs.OneReading.{among}
use Rattle.modbus_field.proofs.burst.laws.frames_among_messages.Goals as goal

pub returns : goal.returns
returns c = among
