use Rattle.modbus_ascii.proofs.Causes.{no-fault}
use Rattle.modbus_ascii.proofs.ascii.process.Goals as goal

pub returns-clause-causes : goal.returns-clause-causes
returns-clause-causes g c = no-fault _ _ _ _ _ _ c.serve.result c.serve.ensures.ran.served
