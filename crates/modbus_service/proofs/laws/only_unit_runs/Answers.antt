use Rattle.modbus_service.proofs.Heard.{unit_runs, unit_is_silent}
use Rattle.modbus_service.proofs.laws.only_unit_runs.Goals as goal

pub returns-clause-run : goal.returns-clause-run
returns-clause-run g c = λ slave. unit_runs slave g.S.Service.answers g.S.Service.takes_memory

pub returns-clause-silent : goal.returns-clause-silent
returns-clause-silent g c = λ slave. unit_is_silent slave g.S.Service.answers g.S.Service.takes_memory
