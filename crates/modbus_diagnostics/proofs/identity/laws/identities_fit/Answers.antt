use Rattle.modbus_diagnostics.proofs.Fitting.{objects_fit}
use Rattle.modbus_diagnostics.proofs.identity.laws.identities_fit.Goals as goal

pub returns-clause-objects : goal.returns-clause-objects
returns-clause-objects c = objects_fit
