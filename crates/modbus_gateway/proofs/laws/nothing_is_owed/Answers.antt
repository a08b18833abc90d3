use Rattle.modbus_gateway.proofs.Owing.{owes_nothing}
use Rattle.modbus_gateway.proofs.laws.nothing_is_owed.Goals as goal

pub returns : goal.returns
returns g c = owes_nothing _
