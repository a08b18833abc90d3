use Rattle.std.proofs.Common.{rules}
use Rattle.modbus_port.proofs.patient.PatientAcceptorAcceptor.accept.Goals as goal

pub returns-in-Ok-clause-accepts : goal.returns-in-Ok-clause-accepts
returns-in-Ok-clause-accepts g c = (rw (← c.self.view_is) c.in-Ok.ensures, search rules, search rules)

pub returns-in-Err-clause-accepts : goal.returns-in-Err-clause-accepts
returns-in-Err-clause-accepts g c = (rw (← c.self.view_is) c.in-Err.ensures, search rules, search rules)
