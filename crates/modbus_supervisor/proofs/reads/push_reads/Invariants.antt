use Rattle.std.proofs.Common.{◌≡◌, ◌++◌, take, map}
use Rattle.modbus_supervisor.specs.Reads.{in_table}
use Rattle.modbus_supervisor.proofs.reads.push_reads.Given as goal

abbrev pub invariant-loop-read : goal.invariant-loop-read
invariant-loop-read l = l.reads.items ≡ l.initial.reads.items ++ map (in_table l.table) (take l.read-index l.planned)
