use Rattle.std.proofs.Common.{length, drop, ◌-◌, ◌≡◌, ◌≤◌}
use Rattle.modbus_link.specs.Passes.{Sends}
use Rattle.modbus_link.proofs.write.flush.Given as goal

abbrev pub invariant-loop-written : goal.invariant-loop-written
invariant-loop-written g l = record {
  within : l.written ≤ length l.bytes;
  sends : Sends (g.L.Ends.output l.fn.link) (g.L.Ends.output l.link) (drop l.fn.written l.bytes) (drop l.written l.bytes);
  later : g.L.PolledLink.not_ready l.fn.link ≤ g.L.PolledLink.not_ready l.link;
  source : g.L.Ends.input l.link ≡ g.L.Ends.input l.fn.link;
  line : g.L.Ends.line l.link ≡ g.L.Ends.line l.fn.link;
}

abbrev pub decreases-loop-written : goal.decreases-loop-written
decreases-loop-written g l = length l.bytes - l.written
