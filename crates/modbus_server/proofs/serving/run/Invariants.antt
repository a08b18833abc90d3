use Rattle.std.proofs.Common.{length, ◌+◌, ◌*◌}
use Rattle.modbus_server.proofs.Running.{Going}
use Rattle.modbus_server.proofs.serving.run.Given as goal

abbrev pub invariant-steps : goal.invariant-steps
invariant-steps g l = Going g.I.Framing.framing g.V.Answerer.answering g.X.Stop.stops g.X.Stop.looks l.fn.service l.service (g.L.Ends.input l.fn.link) (g.L.Ends.input l.link) (g.L.Ends.output l.fn.link) (g.L.Ends.output l.link) l.fn.turns l.left l.connection l.fn.abort_signal l.abort_signal

abbrev pub decreases-steps : goal.decreases-steps
decreases-steps g l = l.left * (g.I.Framing.framing.most + 1) + length l.connection.held
