use Rattle.modbus_field.proofs.OneReading.{unknown_fills}
use Rattle.modbus_field.proofs.burst.laws.unknown_functions_fill.Goals as goal

pub returns : goal.returns
returns c = unknown_fills
