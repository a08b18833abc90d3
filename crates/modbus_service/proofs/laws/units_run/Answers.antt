use Rattle.modbus_service.proofs.Placed.{units_run}
use Rattle.modbus_service.proofs.laws.units_run.Goals as goal

pub returns : goal.returns
returns g c = λ slave unit. units_run slave g.S.Answerer.answering unit
