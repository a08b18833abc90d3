use Rattle.std.proofs.Common.{◌≡◌}
use Rattle.modbus_field.proofs.BurstPieces.{Sofar}
use Rattle.modbus_field.proofs.burst.link.finish.Given as goal

-- the burst so far stands in the room
abbrev pub invariant-pieces : goal.invariant-pieces
invariant-pieces g l = record {
  sofar : Sofar l._read l.first l.count (g.L.Ends.input l.fn.link) (g.L.Ends.input l.link) (g.L.PolledLink.not_ready l.fn.link) (g.L.PolledLink.not_ready l.link) l.fn.room l.room;
  sink : g.L.Ends.output l.link ≡ g.L.Ends.output l.fn.link;
  line : g.L.Ends.line l.link ≡ g.L.Ends.line l.fn.link;
}
