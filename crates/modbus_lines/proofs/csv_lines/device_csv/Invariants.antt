use Rattle.std.proofs.Common.{◌≡◌, take}
use Rattle.modbus_lines.specs.CsvLines.{device_csv}
use Rattle.modbus_lines.proofs.csv_lines.device_csv.Given as goal

abbrev pub invariant-loop-reading : goal.invariant-loop-reading
invariant-loop-reading l = l.lines.items ≡ device_csv l.time l.device (take l.reading-index l.readings)
