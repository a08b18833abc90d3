use Rattle.std.proofs.Common.{refl}
use Rattle.modbus_link.specs.Line.{meaning_of}
use Rattle.modbus_hub.specs.Seats.{IsDrop}
use Rattle.modbus_hub.proofs.Seating.{let_go, stay_same}
use Rattle.modbus_hub.proofs.Sharing.{peers_gone}
use Rattle.modbus_hub.proofs.seats.Seats.drop_idlest.Goals as goal

pub returns-clause-stays : goal.returns-clause-stays
returns-clause-stays g c =
    rw (← c.self.view_is) (let_go g.I.Framing.framing (meaning_of g.L.Ends.input g.L.Ends.output g.L.Ends.line) c.in-Some.idle.key c.self.inside.seats c.try_remove.new.self c.try_remove.ensures.updates)

pub returns-clause-peers : goal.returns-clause-peers
returns-clause-peers g c = rw (← c.self.view_is) (peers_gone c.self.inside.seats c.try_remove.new.self c.in-Some.idle.key c.try_remove.ensures.updates)
