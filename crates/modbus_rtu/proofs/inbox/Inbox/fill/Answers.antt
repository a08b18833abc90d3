use Rattle.std.proofs.Common.{[], arith, append-nil}
use Rattle.std.proofs.lemmas.Grind.{common_steps}
use Rattle.modbus_rtu.proofs.Carrying.{read_stands}
use Rattle.modbus_rtu.proofs.Piece.{read_failed}
use Rattle.modbus_rtu.proofs.inbox.Inbox.fill.Goals as goal

pub returns-in_err-count-clause-reads : goal.returns-in_err-count-clause-reads
returns-in_err-count-clause-reads g c = ([], read_failed _ _ _ _ _ _ c.from_residual.ensures.0 c.in_err-count.ensures.reads, rw append-nil (grind (arith, common_steps)))

pub returns-clause-stands : goal.returns-clause-stands
returns-clause-stands g c = λ piece e some bytes cuts taken s open'. read_stands c.args.self.now _ piece bytes cuts taken e some s open'
