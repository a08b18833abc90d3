use Rattle.std.proofs.Common.{◌≡◌, [], take, map}
use Rattle.csv.specs.Records.{fields_of, partial_of}
use Rattle.modbus_lines.specs.Rows.{name_of}
use Rattle.modbus_lines.proofs.csv_lines.csv_header.Given as goal

abbrev pub invariant-loop-point : goal.invariant-loop-point
invariant-loop-point l = record {
  fields : fields_of l.row ≡ map name_of (take l.point-index l.points);
  begun : partial_of l.row ≡ [];
}
