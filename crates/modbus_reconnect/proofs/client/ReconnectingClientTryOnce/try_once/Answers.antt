use Rattle.std.proofs.Common.{◌∙◌, Some, None}
use Rattle.modbus_link.specs.Line.{meaning_of}
use Rattle.modbus_client.specs.Connects.{connector_of}
use Rattle.modbus_reconnect.specs.State.{meaning_by}
use Rattle.modbus_frame.specs.Meaning.{meaning}
use Rattle.modbus_reconnect.specs.Stands.{by_function}
use Rattle.modbus_reconnect.proofs.Kept.{kept_is_ready, moved}
use Rattle.modbus_reconnect.proofs.Late.{some_left, waits_after}
use Rattle.modbus_reconnect.proofs.client.ReconnectingClientTryOnce.try_once.Goals as goal

pub invariant_of-self-2 : goal.invariant_of-self-2
invariant_of-self-2 g c = record {
  ready = kept_is_ready
      (meaning_by g.P.Protocol.protocol g.P.Protocol.heading (connector_of g.C.Connector.connects g.C.Connector.faults) (meaning_of g.C.Link.Ends.input g.C.Link.Ends.output g.C.Link.Ends.line))
      by_function c.self.inside.address
      (record { slave = c.self.inside.slave.0; turns = c.self.inside.turns; timeout = c.self.inside.timeout })
      c.in-Some.client _ (meaning c.args.request.now) c.call_once-answer.result.0 c.call_once-answer.result.1
      (λ some. c.self.invariant.waits.more (some_left _ some))
      (moved
      (meaning_by g.P.Protocol.protocol g.P.Protocol.heading (connector_of g.C.Connector.connects g.C.Connector.faults) (meaning_of g.C.Link.Ends.input g.C.Link.Ends.output g.C.Link.Ends.line))
      c.args.self.now
      (record {
        connector = c.self.inside.connector;
        address = c.self.inside.address;
        client = c.self.inside.client;
        settings = record { slave = c.self.inside.slave.0; turns = c.self.inside.turns; timeout = c.self.inside.timeout };
        retries = c.self.inside.retries;
        resend = c.self.inside.resend;
        tries = c.self.inside.tries;
        patience = c.self.inside.patience;
        left = c.self.inside.left;
      })
      c.take_client.new.self.connector None (Some c.in-Some.client) (c.self.view_is ∙ c.take_client.ensures.rest) c.in-Some.ensures.ready)
      c.call_once-answer.ensures;
  waits = rw c.left_after-self-inside.ensures (waits_after g.P.Protocol.protocol _ _ _ _ c.self.invariant.waits);
}
