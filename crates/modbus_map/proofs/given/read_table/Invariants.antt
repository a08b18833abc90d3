use Rattle.std.proofs.Common.{◌≤◌, length, take, vec_capacity}
use Rattle.modbus_map.specs.Asking.{AsksTable, ReadsAll}
use Rattle.modbus_map.proofs.given.read_table.Given as goal

abbrev pub invariant-loop-place : goal.invariant-loop-place
invariant-loop-place g l = record {
  made : ReadsAll (AsksTable g.R.Client.answers l.table) l.initial.reader (take l.place l.reads) l.found.items l.reader;
  room : length l.reads ≤ vec_capacity l.found;
}
