use Rattle.std.proofs.Common.{◌≡◌, [], take, map}
use Rattle.csv.specs.Records.{fields_of, partial_of}
use Rattle.modbus_lines.specs.CsvLines.{csv_field}
use Rattle.modbus_lines.proofs.csv_lines.csv_line.Given as goal

abbrev pub invariant-loop-reading : goal.invariant-loop-reading
invariant-loop-reading l = record {
  fields : fields_of l.row ≡ map csv_field (take l.reading-index l.readings);
  begun : partial_of l.row ≡ [];
}
