use Rattle.std.proofs.Common.{refl}
use Rattle.modbus_link.specs.Line.{meaning_of}
use Rattle.modbus_client.specs.Connects.{connector_of}
use Rattle.modbus_reconnect.specs.State.{meaning_by}
use Rattle.modbus_reconnect.proofs.Kept.{ready_of, limited_is_ready}
use Rattle.modbus_reconnect.proofs.client.ReconnectingClientClient.set_timeout.Goals as goal
use Rattle.modbus_reconnect.proofs.client.ReconnectingClientClient.set_timeout.Goals.{in-Some, in_default}

pub invariant_of-self : goal.invariant_of-self
invariant_of-self g c =
    elim c.match-self.branch [
      | in-Some w ↦ rw w.self-inside-is (record {
        ready = limited_is_ready
            (meaning_by g.P.Protocol.protocol g.P.Protocol.heading (connector_of g.C.Connector.connects g.C.Connector.faults) (meaning_of g.C.Link.Ends.input g.C.Link.Ends.output g.C.Link.Ends.line))
            c.self.inside.address (record { slave = c.self.inside.slave.0; turns = c.self.inside.turns; timeout = c.self.inside.timeout })
            w.in-Some.client w.set_timeout.new.self c.args.duration (ready_of _ _ _ _ _ w.in-Some.is c.self.invariant.ready) w.set_timeout.ensures.limits;
        waits = c.self.invariant.waits;
      })
      | in_default w ↦ rw (w.self-inside-is, w.in_default.is) (record { ready = tt; waits = c.self.invariant.waits })
    ]

pub returns-clause-limits : goal.returns-clause-limits
returns-clause-limits g c =
    elim c.match-self.branch [
      | in-Some w ↦ rw (← c.self.view_is, w.self-inside-is)
          (record { client = rw w.in-Some.is (w.set_timeout.new.self, refl, w.set_timeout.ensures.limits); rest = refl })
      | in_default w ↦ rw (← c.self.view_is, w.self-inside-is) (record { client = rw w.in_default.is refl; rest = refl })
    ]
