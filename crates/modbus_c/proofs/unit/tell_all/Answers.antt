use Rattle.modbus_frame.specs.Meaning.{meaning}
use Rattle.modbus_service.proofs.Places.{rest_more}
use Rattle.modbus_c.specs.Units.{HearsAll, outcome_of}
use Rattle.modbus_c.proofs.Telling.{told_one_more}
use Rattle.modbus_c.proofs.unit.tell_all.Goals as goal

pub loop-it-preserved : goal.loop-it-preserved
loop-it-preserved g c = record {
  told = told_one_more (HearsAll g.U.LineUnit.units (meaning c.args.request.now)) c.args.units.now c.loop-it.units c.loop-it.it-index _ _ c.loop-it-test.true c.loop-it.auto.units
      c.loop-it.invariant.rest c.loop-it.invariant.told (outcome_of c.ask.result, rw c.lend.ensures at c.ask.ensures.tells);
  rest = rest_more c.args.units.now c.loop-it.units c.loop-it.it-index _ c.loop-it.invariant.rest;
}
