use Rattle.std.proofs.Common.{◌≡◌, ◌++◌, take}
use Rattle.modbus_lines.specs.Influx.{influx_name}
use Rattle.modbus_lines.proofs.influx_value.push_name.Given as goal

abbrev pub invariant-loop-byte : goal.invariant-loop-byte
invariant-loop-byte l = l.line.items ≡ l.initial.line.items ++ influx_name (take l.byte-index l.name)
