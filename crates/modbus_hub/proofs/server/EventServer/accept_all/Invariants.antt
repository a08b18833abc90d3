use Rattle.std.proofs.Common.{◌≡◌, ◌≤◌}
use Rattle.modbus_link.specs.Line.{meaning_of}
use Rattle.modbus_hub.specs.Seats.{KeepsFew, KeepsLimit, SameLeft, SeatsStay}
use Rattle.modbus_hub.specs.Turns.{accepts_a_round}
use Rattle.modbus_hub.proofs.Rounding.{AcceptsSome}
use Rattle.modbus_hub.proofs.server.EventServer.accept_all.Given as goal

abbrev pub invariant-peers : goal.invariant-peers
invariant-peers g l = KeepsLimit l.fn.self.seats l.self.seats
    × (g.S.Readiness.found l.self.readiness ≡ g.S.Readiness.found l.fn.self.readiness)
    × (g.S.Readiness.faults l.fn.self.readiness ≤ g.S.Readiness.faults l.self.readiness)
    × SeatsStay g.I.Framing.framing (meaning_of g.A.Link.Ends.input g.A.Link.Ends.output g.A.Link.Ends.line)
    (AcceptsSome g.A.PolledAcceptor.accepts g.S.Readiness.faults l.counter l.fn.self l.self) l.fn.self.seats.seats l.self.seats.seats
    × SameLeft l.fn.self.seats l.self.seats
    × (l.counter ≤ accepts_a_round)
    × KeepsFew l.fn.self.seats l.self.seats
