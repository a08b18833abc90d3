use Rattle.std.proofs.Common.{rules, refl, inl, inr}
use Rattle.modbus_link.specs.Line.{meaning_of}
use Rattle.modbus_hub.specs.Seats.{IsDrop}
use Rattle.modbus_hub.proofs.Seating.{stay_same}
use Rattle.modbus_hub.proofs.server.EventServer.give_way.Goals as goal

pub returns-else-wants_room-clause-stays : goal.returns-else-wants_room-clause-stays
returns-else-wants_room-clause-stays g c =
    stay_same g.I.Framing.framing (meaning_of g.A.Link.Ends.input g.A.Link.Ends.output g.A.Link.Ends.line) IsDrop
    c.args.self.now.seats.seats c.args.self.now.seats.seats (λ key. refl) (λ history all. tt)

pub returns-then-wants_room-clause-gives_way : goal.returns-then-wants_room-clause-gives_way
returns-then-wants_room-clause-gives_way g c = inl (search rules, c.drop_idlest.ensures.gives_way)

pub returns-else-wants_room-clause-gives_way : goal.returns-else-wants_room-clause-gives_way
returns-else-wants_room-clause-gives_way g c = inr (search rules, (λ key. refl), refl)
