use Rattle.std.proofs.Common.{length, ◌+◌, ◌*◌}
use Rattle.modbus_server.proofs.Polling.{PollGoing}
use Rattle.modbus_server.proofs.polled.poll_connection.Given as goal

abbrev pub invariant-steps : goal.invariant-steps
invariant-steps g l = PollGoing g.I.Framing.framing g.V.Answerer.answering l.fn.messages l.messages l.fn.connection l.connection l.fn.left l.left l.fn.service l.service (g.L.Ends.input l.fn.link) (g.L.Ends.input l.link) (g.L.Ends.output l.fn.link) (g.L.Ends.output l.link) (g.L.PolledLink.not_ready l.fn.link) (g.L.PolledLink.not_ready l.link)

abbrev pub decreases-steps : goal.decreases-steps
decreases-steps g l = l.left * (g.I.Framing.framing.most + 1) + length l.connection.held
