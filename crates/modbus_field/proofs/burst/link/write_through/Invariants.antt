use Rattle.std.proofs.Common.{◌≡◌, ◌+◌, ◌≤◌, [], min, IsTrue}
use Rattle.modbus_link.specs.Outside.{Extends, bytes_appended}
use Rattle.modbus_field.specs.BurstLink.{last_count}
use Rattle.modbus_field.proofs.burst.link.write_through.Given as goal

-- it was not ready in as many rounds as were made, and nothing was written
abbrev pub invariant-silences : goal.invariant-silences
invariant-silences g l = record {
  sink : Extends (g.L.Ends.output l.fn.link) (g.L.Ends.output l.link);
  wrote : IsTrue (g.L.Ends.output l.fn.link).told → bytes_appended (g.L.Ends.output l.fn.link) (g.L.Ends.output l.link) ≡ [];
  rose : min (g.L.PolledLink.not_ready l.fn.link + l._told) last_count ≤ g.L.PolledLink.not_ready l.link;
  source : g.L.Ends.input l.link ≡ g.L.Ends.input l.fn.link;
  line : g.L.Ends.line l.link ≡ g.L.Ends.line l.fn.link;
}
