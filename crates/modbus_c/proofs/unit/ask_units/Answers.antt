use Rattle.modbus_frame.specs.Meaning.{meaning}
use Rattle.modbus_c.specs.Units.{outcome_of}
use Rattle.modbus_c.proofs.Telling.{first_told}
use Rattle.modbus_c.proofs.unit.ask_units.Goals as goal

pub returns-in-Some : goal.returns-in-Some
returns-in-Some g c = record {
  tells = first_told g.U.LineUnit.units c.args.slave (meaning c.args.request) (outcome_of c.ask.result) c.args.units.now c.in-Some.place _ _ c.if-slave-eq-BROADCAST.false
      c.in-Some.ensures c.ask.ensures.tells;
  fits = c.ask.ensures.fits;
}
