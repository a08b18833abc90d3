use Rattle.std.proofs.Common.{◌∙◌}
use Rattle.modbus_link.specs.Line.{meaning_of}
use Rattle.modbus_hub.specs.Seats.{IsDrop}
use Rattle.modbus_hub.proofs.Rounds.{drops_both}
use Rattle.modbus_hub.proofs.Sharing.{peers_both}
use Rattle.modbus_hub.proofs.Seating.{stay_both}
use Rattle.modbus_hub.proofs.server.EventServer.sweep.Goals as goal

pub returns-clause-stays : goal.returns-clause-stays
returns-clause-stays g c =
    stay_both g.I.Framing.framing (meaning_of g.A.Link.Ends.input g.A.Link.Ends.output g.A.Link.Ends.line) IsDrop IsDrop IsDrop
    c.args.self.now.seats.seats c.sweep_idle.new.self.seats.seats c.sweep_late.new.self.seats.seats c.sweep_idle.ensures.stays c.sweep_late.ensures.stays drops_both

pub returns-clause-lets_go : goal.returns-clause-lets_go
returns-clause-lets_go g c = (c.sweep_idle.new.self, (c.sweep_idle.ensures.lets_go, c.sweep_idle.ensures.losses), c.sweep_late.ensures.lets_go, c.sweep_late.ensures.no_more.1 ∙ c.sweep_idle.ensures.no_more.1)

pub returns-clause-peers : goal.returns-clause-peers
returns-clause-peers g c =
    peers_both c.args.self.now.seats.seats c.sweep_idle.new.self.seats.seats c.sweep_late.new.self.seats.seats c.sweep_idle.ensures.peers c.sweep_late.ensures.peers
