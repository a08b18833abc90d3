use Rattle.std.proofs.Common.{◌≤◌}
use Rattle.modbus_link.specs.Line.{meaning_of}
use Rattle.modbus_hub.specs.Counted.{counted}
use Rattle.modbus_hub.specs.Seats.{polled_by, KeepsFew, KeepsLimit, KeepsMarks, SeatsGoOn}
use Rattle.modbus_hub.specs.Losses.{TellsAll}
use Rattle.modbus_hub.proofs.Serving.{RoundsSoFar}
use Rattle.modbus_hub.proofs.server.EventServer.serve_until.Given as goal

abbrev pub invariant-rounds : goal.invariant-rounds
invariant-rounds g l = KeepsLimit l.fn.self.seats l.self.seats × (g.S.Readiness.faults l.fn.self.readiness ≤ g.S.Readiness.faults l.self.readiness)
    × (g.X.Stop.stops l.fn.abort_signal ≤ g.X.Stop.stops l.abort_signal)
    × SeatsGoOn g.I.Framing.framing (counted g.V.Answerer.answering) (polled_by (meaning_of g.A.Link.Ends.input g.A.Link.Ends.output g.A.Link.Ends.line) g.A.Link.PolledLink.not_ready l.fn.self.seats.limits) (RoundsSoFar g.A.PolledAcceptor.accepts g.S.Readiness.faults g.S.Readiness.found g.A.PolledAcceptor.lacks_files l.fn.deadlines l.sweeps l.fn.self l.self)
    l.fn.self.seats.seats l.self.seats.seats l.fn.service l.service
    × KeepsMarks l.fn.self.seats l.self.seats
    × KeepsFew l.fn.self.seats l.self.seats
    × TellsAll g.W.Watcher.tells l.fn.self.losses l.self.losses l.fn.watcher l.watcher
