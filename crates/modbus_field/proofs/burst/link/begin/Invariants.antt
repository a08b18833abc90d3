use Rattle.std.proofs.Common.{◌≡◌, length}
use Rattle.modbus_field.proofs.BurstPieces.{Hushed}
use Rattle.modbus_field.proofs.burst.link.begin.Given as goal

-- as many silences were told as rounds were made, and nothing was read
abbrev pub invariant-silences : goal.invariant-silences
invariant-silences g l = record {
  hushed : Hushed l._told (g.L.Ends.input l.fn.link) (g.L.Ends.input l.link) (g.L.PolledLink.not_ready l.fn.link) (g.L.PolledLink.not_ready l.link);
  sink : g.L.Ends.output l.link ≡ g.L.Ends.output l.fn.link;
  line : g.L.Ends.line l.link ≡ g.L.Ends.line l.fn.link;
  room : length l.room ≡ length l.fn.room;
}
