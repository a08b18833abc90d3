use Rattle.std.proofs.Common.{◌≡◌, take, drop}
use Rattle.modbus_frame.specs.Meaning.{meaning}
use Rattle.modbus_diagnostics.specs.PortUnits.{AllDid}
use Rattle.modbus_diagnostics.proofs.port_units.tell_all.Given as goal

abbrev pub invariant-loop-it : goal.invariant-loop-it
invariant-loop-it g l = record {
  told : AllDid g.S.Answerer.answering (meaning l.request) (take l.it-index l.initial.units) (take l.it-index l.units) l.ended;
  rest : drop l.it-index l.units ≡ drop l.it-index l.initial.units;
}
