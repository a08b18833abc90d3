use Rattle.std.proofs.Common.{◌≡◌, take}
use Rattle.modbus_lines.specs.Rows.{table_lines}
use Rattle.modbus_lines.proofs.rows.table_lines.Given as goal

abbrev pub invariant-loop-reading : goal.invariant-loop-reading
invariant-loop-reading l = l.text.items ≡ table_lines (take l.reading-index l.readings)
