use Rattle.std.proofs.Common.{refl}
use Rattle.modbus_link.specs.Line.{meaning_of}
use Rattle.modbus_hub.specs.Seats.{IsDrop}
use Rattle.modbus_hub.proofs.Seating.{stay_same}
use Rattle.modbus_hub.proofs.server.EventServer.sweep_idle.Goals as goal

pub returns-else-is_due-clause-stays : goal.returns-else-is_due-clause-stays
returns-else-is_due-clause-stays g c =
    stay_same g.I.Framing.framing (meaning_of g.A.Link.Ends.input g.A.Link.Ends.output g.A.Link.Ends.line) IsDrop
    c.args.self.now.seats.seats c.args.self.now.seats.seats (λ key. refl) (λ history all. tt)
