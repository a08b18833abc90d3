use Rattle.std.proofs.Common.{take}
use Rattle.modbus_service.specs.Units.{Proper}
use Rattle.modbus_diagnostics.proofs.port_units.check_units.Given as goal

abbrev pub invariant-loop-place : goal.invariant-loop-place
invariant-loop-place g l = Proper (take l.place l.units)
