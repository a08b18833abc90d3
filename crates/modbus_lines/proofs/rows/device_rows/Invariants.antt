use Rattle.std.proofs.Common.{◌≡◌, take}
use Rattle.modbus_lines.specs.Rows.{device_rows}
use Rattle.modbus_lines.proofs.rows.device_rows.Given as goal

abbrev pub invariant-loop-reading : goal.invariant-loop-reading
invariant-loop-reading l = l.text.items ≡ device_rows l.device (take l.reading-index l.readings)
