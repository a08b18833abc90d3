use Rattle.std.proofs.Common.{◌≡◌, ◌++◌, take}
use Rattle.modbus_lines.specs.JsonLines.{json_others}
use Rattle.modbus_lines.proofs.json_lines.push_others.Given as goal

abbrev pub invariant-loop-reading : goal.invariant-loop-reading
invariant-loop-reading l = l.line.items ≡ l.initial.line.items ++ json_others l.large (take l.reading-index l.others)
