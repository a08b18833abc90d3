use Rattle.std.proofs.Common.{◌≡◌, ◌≤◌, ◌<◌, ℕ}
use Rattle.modbus_link.specs.Line.{meaning_of}
use Rattle.slab.specs.Slab.{get}
use Rattle.modbus_hub.specs.Seats.{NoMore, SeatsStay, IsDrop, kept}
use Rattle.modbus_hub.specs.Shares.{NoNewPeers}
use Rattle.modbus_hub.proofs.seats.Seats.drop_idle.Given as goal

abbrev pub invariant-keys : goal.invariant-keys
invariant-keys g l = (l.self.has_spent ≡ l.fn.self.has_spent) × NoMore l.fn.self l.self
    × SeatsStay g.I.Framing.framing (meaning_of g.L.Ends.input g.L.Ends.output g.L.Ends.line) IsDrop l.fn.self.seats l.self.seats
    × ((key : ℕ) → key < l.key → get l.self.seats key ≡ kept (get l.fn.self.seats key))
    × ((key : ℕ) → l.key ≤ key → get l.self.seats key ≡ get l.fn.self.seats key)
    × NoNewPeers l.fn.self.seats l.self.seats
