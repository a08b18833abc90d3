use Rattle.std.proofs.Common.{All}
use Rattle.modbus_map.specs.Sound.{IsSoundDevice}
use Rattle.modbus_map.proofs.file.devices_of.Given as goal

abbrev pub invariant-loop-value : goal.invariant-loop-value
invariant-loop-value l = All IsSoundDevice l.devices.items
