use Rattle.modbus_field.proofs.Reading.{goes_on}
use Rattle.modbus_field.proofs.burst.bursts.BurstsFraming.laws.Goals as goal

pub returns-clause-next : goal.returns-clause-next
returns-clause-next c = goes_on
