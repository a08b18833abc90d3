use Rattle.std.proofs.Common.{length}
use Rattle.modbus_server.proofs.OnePiece.{Going}
use Rattle.modbus_server.proofs.piece.serve_held.Given as goal

abbrev pub invariant-messages : goal.invariant-messages
invariant-messages g l = Going g.I.Framing.framing g.V.Answerer.answering l.fn.service l.fn.connection.held l.fn.replies.items l.service l.replies.items l.connection

abbrev pub decreases-messages : goal.decreases-messages
decreases-messages g l = length l.connection.held
