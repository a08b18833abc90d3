use Rattle.std.proofs.Common.{◌≡◌, ◌-◌}
use Rattle.modbus_client.specs.Call.{holding}
use Rattle.modbus_client.proofs.Polling.{PollGoing}
use Rattle.modbus_client.proofs.drive.poll.Given as goal

abbrev pub invariant-turns : goal.invariant-turns
invariant-turns g l = record {
  going : PollGoing g.P.Protocol.protocol (g.L.Ends.input l.fn.link) (g.L.Ends.input l.link) (g.L.Ends.output l.fn.link) (g.L.Ends.output l.link) (g.L.PolledLink.not_ready l.fn.link) (g.L.PolledLink.not_ready l.link) (holding l.fn.call l.fn.held) (holding l.call l.held);
  line : g.L.Ends.line l.link ≡ g.L.Ends.line l.fn.link;
}

abbrev pub decreases-turns : goal.decreases-turns
decreases-turns g l = l.call.turns - l.call.reads
