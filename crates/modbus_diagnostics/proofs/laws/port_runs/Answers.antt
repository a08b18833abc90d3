use Rattle.modbus_diagnostics.proofs.Runs.{port_runs}
use Rattle.modbus_diagnostics.proofs.laws.port_runs.Goals as goal

pub returns : goal.returns
returns g c = λ slave. port_runs slave g.S.Answerer.answering
