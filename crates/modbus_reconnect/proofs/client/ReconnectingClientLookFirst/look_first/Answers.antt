use Rattle.std.proofs.Common.{sym}
use Rattle.modbus_link.specs.Line.{meaning_of}
use Rattle.modbus_client.specs.Connects.{connector_of}
use Rattle.modbus_reconnect.specs.State.{meaning_by}
use Rattle.modbus_reconnect.proofs.Kept.{ready_of}
use Rattle.modbus_reconnect.proofs.FoundIdle.{idle_is_ready}
use Rattle.modbus_reconnect.proofs.Late.{waits_looked}
use Rattle.modbus_reconnect.proofs.client.ReconnectingClientLookFirst.look_first.Goals as goal

pub invariant_of-self-2 : goal.invariant_of-self-2
invariant_of-self-2 g c = record {
  ready = idle_is_ready
      (meaning_by g.P.Protocol.protocol g.P.Protocol.heading (connector_of g.C.Connector.connects g.C.Connector.faults) (meaning_of g.C.Link.Ends.input g.C.Link.Ends.output g.C.Link.Ends.line))
      g.C.Link.IdleLink.looks c.self.inside.address
      (record { slave = c.self.inside.slave.0; turns = c.self.inside.turns; timeout = c.self.inside.timeout })
      c.in-Some.client c.look_once-kept.result
      (ready_of _ _ _ _ _ (sym c.in-Some.ensures.value) c.self.invariant.ready)
      c.look_once-kept.ensures;
  waits = rw c.left_looked-self-inside.ensures (waits_looked g.P.Protocol.protocol _ _ _ c.self.invariant.waits);
}
