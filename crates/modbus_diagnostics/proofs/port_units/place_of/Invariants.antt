use Rattle.std.proofs.Common.{take}
use Rattle.modbus_service.specs.Units.{NoneAt}
use Rattle.modbus_diagnostics.proofs.port_units.place_of.Given as goal

abbrev pub invariant-loop-place : goal.invariant-loop-place
invariant-loop-place g l = NoneAt l.slave (take l.place l.units)
