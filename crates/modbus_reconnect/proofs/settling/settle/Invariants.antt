use Rattle.std.proofs.Common.{◌≡◌, ◌≤◌, ◌-◌}
use Rattle.modbus_reconnect.proofs.Dropping.{Dropped}
use Rattle.modbus_reconnect.proofs.settling.settle.Given as goal

-- so many bytes were dropped
abbrev pub invariant-loop-dropped : goal.invariant-loop-dropped
invariant-loop-dropped g l = record {
  sofar : Dropped l.dropped (g.L.Ends.input l.fn.link) (g.L.Ends.input l.link) (g.L.PolledLink.not_ready l.fn.link) (g.L.PolledLink.not_ready l.link);
  within : l.dropped ≤ l.limit;
  sink : g.L.Ends.output l.link ≡ g.L.Ends.output l.fn.link;
  line : g.L.Ends.line l.link ≡ g.L.Ends.line l.fn.link;
}

abbrev pub decreases-loop-dropped : goal.decreases-loop-dropped
decreases-loop-dropped g l = l.limit - l.dropped
