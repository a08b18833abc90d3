use Rattle.std.proofs.Common.{take}
use Rattle.modbus_map.specs.Gathering.{seen_by}
use Rattle.modbus_lines.specs.Readings.{AreReadings}
use Rattle.modbus_lines.proofs.reading.readings_of.Given as goal

abbrev pub invariant-loop-point : goal.invariant-loop-point
invariant-loop-point l = AreReadings l.format (seen_by (λ v. v.items) l.given) (take l.point-index l.points) l.readings.items
