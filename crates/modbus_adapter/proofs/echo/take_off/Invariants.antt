use Rattle.std.proofs.Common.{◌≡◌, [], length}
use Rattle.modbus_adapter.specs.Echo.{DropsEcho}
use Rattle.modbus_adapter.proofs.echo.take_off.Given as goal

abbrev pub decreases-echo : goal.decreases-echo
decreases-echo g l = length l.owed

-- what came so far was all of the echo
abbrev pub invariant-echo : goal.invariant-echo
invariant-echo g l = record {
  drops : DropsEcho (g.L.Ends.input l.fn.link) (g.L.Ends.input l.link) l.fn.owed l.owed [];
  silences : g.L.PolledLink.not_ready l.link ≡ g.L.PolledLink.not_ready l.fn.link;
  sink : g.L.Ends.output l.link ≡ g.L.Ends.output l.fn.link;
  line : g.L.Ends.line l.link ≡ g.L.Ends.line l.fn.link;
  room : length l.room ≡ length l.fn.room;
}
