use Rattle.std.proofs.Common.{◌≡◌, ◌≤◌, ℕ}
use Rattle.modbus_link.specs.Line.{meaning_of}
use Rattle.modbus_hub.specs.Counted.{counted}
use Rattle.slab.specs.Slab.{get}
use Rattle.modbus_hub.specs.Seats.{polled_by, NoMore, SeatsGoOn}
use Rattle.modbus_hub.specs.Shares.{NoNewPeers}
use Rattle.modbus_hub.proofs.Marks.{MarksBelow, OneBelow}
use Rattle.modbus_hub.proofs.Rounds.{ServesBelow}
use Rattle.modbus_hub.proofs.seats.Seats.serve_spent.Given as goal

abbrev pub invariant-keys : goal.invariant-keys
invariant-keys g l = NoMore l.fn.self l.self
    × SeatsGoOn g.I.Framing.framing (counted g.V.Answerer.answering) (polled_by (meaning_of g.L.Ends.input g.L.Ends.output g.L.Ends.line) g.L.PolledLink.not_ready l.fn.self.limits) (ServesBelow l.fn.found l.key l.fn.self.seats) l.fn.self.seats l.self.seats l.fn.service l.service
    × ((key : ℕ) → l.key ≤ key → get l.self.seats key ≡ get l.fn.self.seats key)
    × MarksBelow l.key l.self
    × OneBelow l.key l.self
    × NoNewPeers l.fn.self.seats l.self.seats
