use Rattle.modbus_ascii.proofs.Causes.{no-fault}
use Rattle.modbus_ascii.proofs.ascii.process_link.Goals as goal

pub returns-clause-causes : goal.returns-clause-causes
returns-clause-causes g c = no-fault _ _ _ _ _ _ c.serve_link.result c.serve_link.ensures.ran.served
