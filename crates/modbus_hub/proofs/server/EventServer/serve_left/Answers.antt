use Rattle.std.proofs.Common.{rules, ◌≡◌, Bool, true, false, inl, refl}
use Rattle.modbus_link.specs.Line.{meaning_of}
use Rattle.modbus_hub.specs.Counted.{counted}
use Rattle.modbus_hub.specs.Seats.{polled_by}
use Rattle.modbus_hub.specs.Turns.{ServesLeft}
use Rattle.modbus_hub.proofs.Histories.{stays_none}
use Rattle.modbus_hub.proofs.Seating.{go_same}
use Rattle.modbus_hub.proofs.server.EventServer.serve_left.Goals as goal

no_both : (b : Bool) → b ≡ false → b ≡ true → ⊥
no_both b e f = cc

pub returns-else-has_spent-clause-goes_on : goal.returns-else-has_spent-clause-goes_on
returns-else-has_spent-clause-goes_on g c =
    let seats = c.args.self.now.seats in
    let found = g.S.Readiness.found c.args.self.now.readiness in
    let none_spent : seats.has_spent ≡ false = search rules in
    go_same g.I.Framing.framing (counted g.V.Answerer.answering) (polled_by (meaning_of g.A.Link.Ends.input g.A.Link.Ends.output g.A.Link.Ends.line) g.A.Link.PolledLink.not_ready c.args.self.now.seats.limits) (ServesLeft found seats)
    seats.seats c.args.service.now
    (λ history. ((refl, stays_none history, tt), λ left. absurd (no_both seats.has_spent none_spent left), λ key. inl refl))
