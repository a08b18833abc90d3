use Rattle.std.proofs.Common.{◌≡◌, ℕ}
use Rattle.modbus_link.specs.Line.{meaning_of}
use Rattle.modbus_client.specs.Connects.{connector_of}
use Rattle.modbus_reconnect.specs.State.{meaning_by}
use Rattle.modbus_frame.specs.Meaning.{meaning}
use Rattle.modbus_reconnect.specs.Calls.{TriesInVain}
use Rattle.modbus_reconnect.proofs.client.ReconnectingClientClient.call.Given as goal

-- as many tries as rounds were made in vain
abbrev pub invariant-tries : goal.invariant-tries
invariant-tries g l = record {
  made : ℕ;
  rounds : l.earlier ≡ made;
  asks : meaning l.request ≡ meaning l.fn.request;
  vain : TriesInVain (meaning_by g.P.Protocol.protocol g.P.Protocol.heading (connector_of g.C.Connector.connects g.C.Connector.faults) (meaning_of g.C.Link.Ends.input g.C.Link.Ends.output g.C.Link.Ends.line))
      g.P.Protocol.protocol (meaning l.fn.request) made l.fn.self l.self;
}
