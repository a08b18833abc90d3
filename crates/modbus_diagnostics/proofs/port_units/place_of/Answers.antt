use Rattle.std.proofs.Common.{◌≢◌, subst}
use Rattle.std.proofs.lemmas.List.{take_all}
use Rattle.modbus_service.specs.Units.{NoneAt}
use Rattle.modbus_diagnostics.proofs.Places.{first_here, all_more}
use Rattle.modbus_diagnostics.proofs.port_units.place_of.Goals as goal

pub returns-then-it-slave : goal.returns-then-it-slave
returns-then-it-slave g c =
    first_here c.args.units.now c.loop-place.place c.args.slave c.index-units-place.result c.loop-place-test.true c.index-units-place.is
    c.if-it-slave.true c.loop-place.invariant

pub loop-place-preserved : goal.loop-place-preserved
loop-place-preserved g c =
    all_more (λ u. u.unit ≢ c.args.slave) c.args.units.now c.loop-place.place c.index-units-place.result c.loop-place-test.true
    c.index-units-place.is c.loop-place.invariant c.if-it-slave.false

pub returns : goal.returns
returns g c = subst (λ us. NoneAt c.args.slave us) (take_all c.loop-place.place c.args.units.now c.loop-place-test.false) c.loop-place.invariant
