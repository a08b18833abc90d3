use Rattle.std.proofs.Common.{◌≡◌, ◌⊎◌, ℕ, take, IsTrue}
use Rattle.modbus_link.specs.Line.{meaning_of}
use Rattle.modbus_hub.specs.Counted.{counted}
use Rattle.modbus_hub.specs.Seats.{polled_by, IsFound, KeepsMarks, NoMore, SeatsGoOn}
use Rattle.slab.specs.Slab.{get}
use Rattle.modbus_hub.specs.Turns.{IsPeerFound, ServesFound}
use Rattle.modbus_hub.specs.Shares.{NoNewPeers}
use Rattle.modbus_hub.proofs.server.EventServer.serve_ready.Given as goal

abbrev pub invariant-ready : goal.invariant-ready
invariant-ready g l = NoMore l.fn.self.seats l.self.seats × (l.self.acceptor ≡ l.fn.self.acceptor) × (l.self.readiness ≡ l.fn.self.readiness) × (l.self.losses ≡ l.fn.self.losses)
    × SeatsGoOn g.I.Framing.framing (counted g.V.Answerer.answering) (polled_by (meaning_of g.A.Link.Ends.input g.A.Link.Ends.output g.A.Link.Ends.line) g.A.Link.PolledLink.not_ready l.fn.self.seats.limits) (ServesFound (take l.index (g.S.Readiness.found l.fn.self.readiness)))
    l.fn.self.seats.seats l.self.seats.seats l.fn.service l.service
    × (IsTrue l.fn.self.is_asked → IsTrue l.self.is_asked) × (IsPeerFound (take l.index (g.S.Readiness.found l.fn.self.readiness)) → IsTrue l.self.is_asked)
    × KeepsMarks l.fn.self.seats l.self.seats
    × (IsTrue l.fn.self.seats.has_spent → IsTrue l.self.seats.has_spent)
    × ((key : ℕ) → IsFound key (take l.index (g.S.Readiness.found l.fn.self.readiness)) ⊎ (get l.self.seats.seats key ≡ get l.fn.self.seats.seats key))
    × NoNewPeers l.fn.self.seats.seats l.self.seats.seats
