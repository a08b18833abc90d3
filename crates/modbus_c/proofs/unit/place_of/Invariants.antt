use Rattle.std.proofs.Common.{take}
use Rattle.modbus_c.specs.Units.{NoneHas}
use Rattle.modbus_c.proofs.unit.place_of.Given as goal

abbrev pub invariant-loop-place : goal.invariant-loop-place
invariant-loop-place g l = NoneHas g.U.LineUnit.units l.slave (take l.place l.units)
