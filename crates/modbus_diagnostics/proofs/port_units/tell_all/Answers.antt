use Rattle.std.proofs.Common.{◌<◌, ◌≤◌, length, set, sym, subst, arith, take}
use Rattle.std.proofs.lemmas.Result.{err_from_is_err_and}
use Rattle.std.proofs.lemmas.List.{take_all}
use Rattle.modbus_frame.specs.Meaning.{meaning}
use Rattle.std.specs.List.{AllZip}
use Rattle.modbus_service.specs.Units.{Did, StoppedAtUnit}
use Rattle.modbus_diagnostics.proofs.Places.{rest_more, stopped_at}
use Rattle.modbus_diagnostics.proofs.Told.{all_did, did_more}
use Rattle.modbus_diagnostics.proofs.port_units.tell_all.Goals as goal

pub returns-in_err-end-clause-done : goal.returns-in_err-end-clause-done
returns-in_err-end-clause-done g c =
    let A = g.S.Answerer.answering in
    let request = meaning c.args.request.now in
    let within : c.loop-it.it-index < length c.loop-it.units = omega (arith, c.loop-it.auto.units, c.loop-it-test.true) in
    let stopped = stopped_at A request c.args.units.now c.loop-it.units c.loop-it.it-index c.it-item.result
    c.tell.new.service within c.loop-it.auto.units c.it-item.is c.loop-it.invariant.rest
    (all_did A request (take c.loop-it.it-index c.args.units.now) (take c.loop-it.it-index c.loop-it.units) c.loop-it.ended c.loop-it.invariant.told)
    (subst (λ u. A.wants u.service 0 request c.tell.new.service) (sym c.it-item.is) c.in_err-end.ensures) in
    let p = err_from_is_err_and c.from_residual.result c.from_residual.ensures.1 in
    rw p.1 (subst (λ u. StoppedAtUnit A request c.args.units.now
    (set c.loop-it.units c.loop-it.it-index (record { unit = u.unit; service = c.tell.new.service }))) c.it-item.is stopped)

pub loop-it-preserved : goal.loop-it-preserved
loop-it-preserved g c =
    let A = g.S.Answerer.answering in
    let request = meaning c.args.request.now in
    let within : c.loop-it.it-index < length c.loop-it.units = omega (arith, c.loop-it.auto.units, c.loop-it-test.true) in
    record {
      told = did_more A request c.args.units.now c.loop-it.units c.loop-it.it-index c.it-item.result c.tell.new.service c.loop-it.ended
          within c.loop-it.auto.units c.it-item.is c.loop-it.invariant.rest c.loop-it.invariant.told c.in_ok-end.ensures c.worse-ended.ensures;
      rest = rest_more c.args.units.now c.loop-it.units c.loop-it.it-index _ c.loop-it.invariant.rest;
    }

pub returns-clause-done : goal.returns-clause-done
returns-clause-done g c =
    let A = g.S.Answerer.answering in
    let request = meaning c.args.request.now in
    let i = c.loop-it.it-index in
    let past_old : length c.args.units.now ≤ i = omega (arith, c.loop-it.auto.units, c.loop-it-test.false) in
    let past_new : length c.loop-it.units ≤ i = omega (arith, c.loop-it.auto.units, c.loop-it-test.false) in
    subst (λ us. AllZip (Did A request) us c.loop-it.units) (take_all i c.args.units.now past_old)
    (subst (λ us. AllZip (Did A request) (take i c.args.units.now) us) (take_all i c.loop-it.units past_new)
    (all_did A request (take i c.args.units.now) (take i c.loop-it.units) c.loop-it.ended c.loop-it.invariant.told))
