use Rattle.modbus_link.specs.Line.{meaning_of}
use Rattle.modbus_client.specs.Connects.{connector_of}
use Rattle.modbus_reconnect.specs.State.{meaning_by}
use Rattle.modbus_reconnect.proofs.Kept.{ready_of, turned_is_ready}
use Rattle.modbus_reconnect.proofs.client.ReconnectingClient.set_turns.Goals as goal
use Rattle.modbus_reconnect.proofs.client.ReconnectingClient.set_turns.Goals.{in-Some, in_default}

pub invariant_of-self : goal.invariant_of-self
invariant_of-self g c =
    elim c.match-self.branch [
      | in-Some w ↦ rw w.self-inside-is (record {
        ready = turned_is_ready
            (meaning_by g.P.Protocol.protocol g.P.Protocol.heading (connector_of g.C.Connector.connects g.C.Connector.faults) (meaning_of g.C.Link.Ends.input g.C.Link.Ends.output g.C.Link.Ends.line))
            c.self.inside.address (record { slave = c.self.inside.slave.0; turns = c.self.inside.turns; timeout = c.self.inside.timeout })
            w.in-Some.client w.set_turns.new.self c.args.turns (ready_of _ _ _ _ _ w.in-Some.is c.self.invariant.ready) w.set_turns.ensures;
        waits = c.self.invariant.waits;
      })
      | in_default w ↦ rw (w.self-inside-is, w.in_default.is) (record { ready = tt; waits = c.self.invariant.waits })
    ]
