use Rattle.modbus_field.proofs.Reading.{opened}
use Rattle.modbus_field.proofs.burst.bursts.BurstsFraming.open.Goals as goal

pub returns-in_err-with_capacity-clause-stands : goal.returns-in_err-with_capacity-clause-stands
returns-in_err-with_capacity-clause-stands c = opened

pub returns-clause-stands : goal.returns-clause-stands
returns-clause-stands c = opened
