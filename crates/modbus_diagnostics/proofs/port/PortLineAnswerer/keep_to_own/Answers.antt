use Rattle.modbus_diagnostics.proofs.Own.{keep}
use Rattle.modbus_diagnostics.proofs.port.PortLineAnswerer.keep_to_own.Goals as goal

pub returns-clause-own : goal.returns-clause-own
returns-clause-own g c = keep g.S.Answerer.answering c.units_keep_to_own.ensures
