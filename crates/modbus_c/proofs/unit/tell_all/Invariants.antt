use Rattle.std.proofs.Common.{◌≡◌, take, drop}
use Rattle.std.specs.List.{AllZip}
use Rattle.modbus_frame.specs.Meaning.{meaning}
use Rattle.modbus_c.specs.Units.{HearsAll}
use Rattle.modbus_c.proofs.unit.tell_all.Given as goal

abbrev pub invariant-loop-it : goal.invariant-loop-it
invariant-loop-it g l = record {
  told : AllZip (HearsAll g.U.LineUnit.units (meaning l.request)) (take l.it-index l.initial.units) (take l.it-index l.units);
  rest : drop l.it-index l.units ≡ drop l.it-index l.initial.units;
}
