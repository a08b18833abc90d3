use Rattle.modbus_field.proofs.Never.{no_fault}
use Rattle.modbus_field.proofs.stream.line.process_link.Goals as goal

pub returns-clause-causes : goal.returns-clause-causes
returns-clause-causes g c = no_fault g.V.Answerer.answering _ _ _ _ _ c.serve_link.result c.serve_link.ensures.ran.served
