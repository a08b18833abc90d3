use Rattle.modbus_diagnostics.proofs.Addresses.{stay_true}
use Rattle.modbus_diagnostics.proofs.laws.addresses_stay.Goals as goal

pub returns : goal.returns
returns g c = λ slave. stay_true g.S.Answerer.answering slave
