use Rattle.std.proofs.Common.{length, ◌-◌, ◌≡◌, ◌≤◌, take, IsTrue}
use Rattle.modbus_link.specs.Outside.{Extends, bytes_appended}
use Rattle.modbus_link.proofs.write.write_all.Given as goal

abbrev pub invariant-loop-at : goal.invariant-loop-at
invariant-loop-at g l = record {
  within : l.at ≤ length l.bytes;
  sink : Extends (g.K.Ends.output l.fn.sink) (g.K.Ends.output l.sink);
  bytes : IsTrue (g.K.Ends.output l.fn.sink).told → bytes_appended (g.K.Ends.output l.fn.sink) (g.K.Ends.output l.sink) ≡ take l.at l.bytes;
  source : g.K.Ends.input l.sink ≡ g.K.Ends.input l.fn.sink;
}

abbrev pub decreases-loop-at : goal.decreases-loop-at
decreases-loop-at g l = length l.bytes - l.at
