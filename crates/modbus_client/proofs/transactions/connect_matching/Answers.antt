use Rattle.std.proofs.Common.{rules, Ok}
use Rattle.modbus_link.specs.Line.{meaning_of}
use Rattle.modbus_client.proofs.Connecting.{connected}
use Rattle.modbus_client.proofs.transactions.connect_matching.Goals as goal

pub returns-in-Ok : goal.returns-in-Ok
returns-in-Ok g c = record {
  given = Ok c.in-Ok.link;
  made = c.in-Ok.ensures.connects;
  client = connected (meaning_of g.C.Link.Ends.input g.C.Link.Ends.output g.C.Link.Ends.line) c.args.slave.0 c.args.timeout c.in-Ok.link _ _ c.attach_matching-client.ensures c.limit.ensures;
  fault = search rules;
}
