use Rattle.std.proofs.Common.{◌≡◌, IsTrue}
use Rattle.modbus_link.specs.Line.{meaning_of}
use Rattle.modbus_reconnect.specs.SettleState.{line_by}
use Rattle.modbus_reconnect.proofs.Waited.{Goes}
use Rattle.modbus_reconnect.proofs.waiting.wait.Given as goal

-- as many silences were told as rounds were made, and then nothing is held
abbrev pub invariant-silences : goal.invariant-silences
invariant-silences g l = record {
  going : Goes (line_by g.P.Protocol.protocol g.P.LineProtocol.silent g.P.Protocol.heading (meaning_of g.L.Ends.input g.L.Ends.output g.L.Ends.line) g.L.PolledLink.not_ready g.L.IdleLink.looks)
      l._told l.is_noisy l.fn.link l.link l.fn.call.call l.call.call;
  goes_on : IsTrue l.call.is_open;
  line : g.L.Ends.line l.link ≡ g.L.Ends.line l.fn.link;
}
