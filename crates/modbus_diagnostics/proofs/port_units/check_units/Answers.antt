use Rattle.std.proofs.Common.{◌+◌, subst, take, drop}
use Rattle.std.proofs.lemmas.List.{take_all}
use Rattle.modbus_service.specs.Units.{Proper}
use Rattle.modbus_diagnostics.proofs.Places.{split_at, proper_more, out_of_range}
use Rattle.modbus_diagnostics.proofs.port_units.check_units.Goals as goal

pub returns-then-not-is_single_device : goal.returns-then-not-is_single_device
returns-then-not-is_single_device g c =
    let it = c.index-units-place.result in
    record {
      before = take c.loop-place.place c.args.units.now;
      service = it.service;
      after = drop (c.loop-place.place + 1) c.args.units.now;
      is = split_at c.args.units.now c.loop-place.place it c.loop-place-test.true c.index-units-place.is;
      proper_before = c.loop-place.invariant;
      cause = out_of_range it.unit (λ inside. (let on = c.is_single_device.ensures.1 inside in cc));
    }

pub returns-in-Some : goal.returns-in-Some
returns-in-Some g c =
    let it = c.index-units-place.result in
    record {
      before = take c.loop-place.place c.args.units.now;
      service = it.service;
      after = drop (c.loop-place.place + 1) c.args.units.now;
      is = split_at c.args.units.now c.loop-place.place it c.loop-place-test.true c.index-units-place.is;
      proper_before = c.loop-place.invariant;
      cause = c.in-Some.ensures.0;
    }

pub loop-place-preserved : goal.loop-place-preserved
loop-place-preserved g c =
    proper_more c.args.units.now c.loop-place.place c.index-units-place.result c.loop-place-test.true c.index-units-place.is
    (c.is_single_device.ensures.0 c.if-not-is_single_device.false) c.in-None.ensures c.loop-place.invariant

pub returns : goal.returns
returns g c = subst (λ us. Proper us) (take_all c.loop-place.place c.args.units.now c.loop-place-test.false) c.loop-place.invariant
