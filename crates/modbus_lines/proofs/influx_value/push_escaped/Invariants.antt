use Rattle.std.proofs.Common.{◌≡◌, ◌++◌, take}
use Rattle.modbus_lines.specs.Influx.{escaped_text}
use Rattle.modbus_lines.proofs.influx_value.push_escaped.Given as goal

abbrev pub invariant-loop-byte : goal.invariant-loop-byte
invariant-loop-byte l = l.line.items ≡ l.initial.line.items ++ escaped_text (take l.byte-index l.text)
