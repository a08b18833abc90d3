use Rattle.modbus_link.specs.Line.{meaning_of}
use Rattle.modbus_hub.specs.Seats.{IsDrop}
use Rattle.modbus_hub.proofs.Rounds.{drops_both}
use Rattle.modbus_hub.proofs.Sharing.{peers_both}
use Rattle.modbus_hub.proofs.Seating.{stay_both}
use Rattle.modbus_hub.proofs.server.EventServer.let_go.Goals as goal

pub returns-clause-stays : goal.returns-clause-stays
returns-clause-stays g c =
    stay_both g.I.Framing.framing (meaning_of g.A.Link.Ends.input g.A.Link.Ends.output g.A.Link.Ends.line) IsDrop IsDrop IsDrop
    c.args.self.now.seats.seats c.sweep.new.self.seats.seats c.give_way.new.self.seats.seats c.sweep.ensures.stays c.give_way.ensures.stays drops_both

pub returns-clause-went : goal.returns-clause-went
returns-clause-went g c =
    (c.sweep.new.self, c.sweep.ensures.lets_go, c.sweep.ensures.acceptor, c.give_way.ensures.gives_way)

pub returns-clause-peers : goal.returns-clause-peers
returns-clause-peers g c =
    peers_both c.args.self.now.seats.seats c.sweep.new.self.seats.seats c.give_way.new.self.seats.seats c.sweep.ensures.peers c.give_way.ensures.peers
