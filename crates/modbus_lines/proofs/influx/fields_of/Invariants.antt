use Rattle.std.proofs.Common.{◌≡◌, take}
use Rattle.modbus_lines.specs.Influx.{influx_fields}
use Rattle.modbus_lines.proofs.influx.fields_of.Given as goal

abbrev pub invariant-loop-reading : goal.invariant-loop-reading
invariant-loop-reading l = l.fields.items ≡ influx_fields (take l.reading-index l.readings)
