use Rattle.std.proofs.Common.{refl, Some, None}
use Rattle.modbus_link.specs.Line.{meaning_of}
use Rattle.modbus_fleet.specs.Device.{fleet_by}
use Rattle.modbus_fleet.proofs.Going.{each_rests, each_polls}
use Rattle.modbus_fleet.proofs.fleet.Fleet.take_ready.Goals as goal

pub returns-in-Some-clause-takes : goal.returns-in-Some-clause-takes
returns-in-Some-clause-takes g c = rw (c.in-Link.is) (Some c.in-Some.answer, refl, c.in-Some.ensures.polls, c.in-Some.ensures.others)

pub returns-in-Some-clause-each : goal.returns-in-Some-clause-each
returns-in-Some-clause-each g c =
    each_polls (fleet_by g.P.Protocol.protocol (meaning_of g.L.Ends.input g.L.Ends.output g.L.Ends.line) g.L.PolledLink.not_ready) c.in-Link.key c.args.self.now.devices c.poll.new.self.devices (Some c.in-Some.answer) c.in-Some.ensures.polls c.in-Some.ensures.others

pub returns-in-None-clause-takes : goal.returns-in-None-clause-takes
returns-in-None-clause-takes g c = rw (c.in-Link.is) (None, refl, c.in-None.ensures.polls, c.in-None.ensures.others)

pub returns-in-None-clause-each : goal.returns-in-None-clause-each
returns-in-None-clause-each g c =
    each_polls (fleet_by g.P.Protocol.protocol (meaning_of g.L.Ends.input g.L.Ends.output g.L.Ends.line) g.L.PolledLink.not_ready) c.in-Link.key c.args.self.now.devices c.poll.new.self.devices None c.in-None.ensures.polls c.in-None.ensures.others

pub returns-in-Peer-clause-each : goal.returns-in-Peer-clause-each
returns-in-Peer-clause-each g c = each_rests (fleet_by g.P.Protocol.protocol (meaning_of g.L.Ends.input g.L.Ends.output g.L.Ends.line) g.L.PolledLink.not_ready) c.args.self.now.devices c.args.self.now.devices (λ key. refl)
