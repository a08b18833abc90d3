use Rattle.std.proofs.Common.{refl, sym, []}
use Rattle.modbus_link.specs.Line.{meaning_of}
use Rattle.modbus_frame.specs.Meaning.{meaning}
use Rattle.modbus_reconnect.specs.SettleState.{line_by}
use Rattle.modbus_reconnect.proofs.Waited.{unasked}
use Rattle.modbus_reconnect.proofs.waiting.ask.Goals as goal

pub returns-in-Err-clause-ends : goal.returns-in-Err-clause-ends
returns-in-Err-clause-ends g c = (
  [],
  refl,
  unasked (line_by g.P.Protocol.protocol g.P.LineProtocol.silent g.P.Protocol.heading (meaning_of g.L.Ends.input g.L.Ends.output g.L.Ends.line) g.L.PolledLink.not_ready g.L.IdleLink.looks)
      c.requests_not_opened_are_unsent.ensures c.args.link.now c.args.header (meaning c.args.request.now) c.args.turns c.args.silences c.in-Err.error c.in-Err.ensures.cause,
)

pub returns-in-Ok-clause-ends : goal.returns-in-Ok-clause-ends
returns-in-Ok-clause-ends g c = (
  c.wait-answer.new.call.call.held,
  sym c.held.ensures,
  c.wait-answer.ensures.waits c.args.header (meaning c.args.request.now) c.args.turns c.in-Ok.ensures.asks c.in-Ok.ensures.fits c.in-Ok.ensures.goes,
)
