use Rattle.std.proofs.Common.{◌<◌, length, set, sym, ap, subst, arith}
use Rattle.std.proofs.lemmas.Result.{err_from_is_err_and}
use Rattle.modbus_frame.specs.Meaning.{meaning}
use Rattle.modbus_service.specs.Outcome.{Outcome}
use Rattle.modbus_service.specs.Units.{Did, StoppedAtUnit}
use Rattle.modbus_service.proofs.Places.{told_more, rest_more, stopped_at}
use Rattle.modbus_service.proofs.units.tell_all.Goals as goal

pub returns-in_err-tell : goal.returns-in_err-tell
returns-in_err-tell g c =
    let within : c.loop-it.it-index < length c.loop-it.units = omega (arith, c.loop-it.auto.units, c.loop-it-test.true) in
    let stopped = stopped_at g.S.Answerer.answering (meaning c.args.request.now) c.args.units.now c.loop-it.units c.loop-it.it-index c.it-item.result
    c.tell.new.service within c.loop-it.auto.units c.it-item.is c.loop-it.invariant.rest c.loop-it.invariant.told
    (subst (λ u. g.S.Answerer.answering.wants u.service 0 (meaning c.args.request.now) c.tell.new.service) (sym c.it-item.is) c.in_err-tell.ensures) in
    let p = err_from_is_err_and c.from_residual.result c.from_residual.ensures.1 in
    rw p.1 (subst (λ u. StoppedAtUnit g.S.Answerer.answering (meaning c.args.request.now) c.args.units.now
    (set c.loop-it.units c.loop-it.it-index (record { unit = u.unit; service = c.tell.new.service }))) c.it-item.is stopped)

pub loop-it-preserved : goal.loop-it-preserved
loop-it-preserved g c =
    let within : c.loop-it.it-index < length c.loop-it.units = omega (arith, c.loop-it.auto.units, c.loop-it-test.true) in
    let did = subst (λ u. (told : Outcome) × g.S.Answerer.answering.gives u.service 0 (meaning c.args.request.now) told c.tell.new.service) (sym c.it-item.is)
    c.in_ok-tell.ensures in
    record {
      told = told_more (Did g.S.Answerer.answering (meaning c.args.request.now)) c.args.units.now c.loop-it.units c.loop-it.it-index c.it-item.result _
          within c.loop-it.auto.units c.it-item.is c.loop-it.invariant.rest c.loop-it.invariant.told
          (sym (ap (λ u. u.unit) c.it-item.is), did);
      rest = rest_more c.args.units.now c.loop-it.units c.loop-it.it-index _ c.loop-it.invariant.rest;
    }
