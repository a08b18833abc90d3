use Rattle.modbus_field.proofs.QuietUnits.{keep}
use Rattle.modbus_field.proofs.burst.laws.units_keep_to_own.Goals as goal

pub returns : goal.returns
returns g c = keep g.S.Answerer.answering
