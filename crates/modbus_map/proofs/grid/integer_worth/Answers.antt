use Rattle.std.proofs.Common.{rules, FitsSigned}
use Rattle.std.specs.Int.{w64, w128}
use Rattle.modbus_map.proofs.Grids.{worth_ok, worth_refused, units_refused, not_fitting}
use Rattle.modbus_map.proofs.grid.integer_worth.Goals as goal

pub returns-in-Err-clause-refused : goal.returns-in-Err-clause-refused
returns-in-Err-clause-refused c =
    let factor : FitsSigned w64 c.args.scale.factor = search rules in
    let offset : FitsSigned w64 c.args.scale.offset = search rules in
    units_refused c.args.scale c.args.number c.in-Err.error factor offset c.in-Err.ensures.refused

pub returns-in-Some-clause-ok : goal.returns-in-Some-clause-ok
returns-in-Some-clause-ok c =
    let factor : FitsSigned w64 c.args.scale.factor = search rules in
    let offset : FitsSigned w64 c.args.scale.offset = search rules in
    let units : FitsSigned w128 c.in-Ok.units = search rules in
    worth_ok c.args.scale c.args.number c.in-Ok.units c.from.result c.in-Some.product c.quotient.result factor offset units c.from.ensures
    c.in-Ok.ensures.ok c.in-Some.ensures c.quotient.ensures.ok

pub returns-in-Some-clause-refused : goal.returns-in-Some-clause-refused
returns-in-Some-clause-refused c =
    let factor : FitsSigned w64 c.args.scale.factor = search rules in
    let offset : FitsSigned w64 c.args.scale.offset = search rules in
    let units : FitsSigned w128 c.in-Ok.units = search rules in
    worth_refused c.args.scale c.args.number c.in-Ok.units c.from.result c.in-Some.product c.quotient.result factor offset units c.from.ensures
    c.in-Ok.ensures.ok c.in-Some.ensures c.quotient.ensures.refused

pub returns-in-None-clause-refused : goal.returns-in-None-clause-refused
returns-in-None-clause-refused c = λ n small w.
    let factor : FitsSigned w64 c.args.scale.factor = search rules in
    let offset : FitsSigned w64 c.args.scale.offset = search rules in
    let units : FitsSigned w128 c.in-Ok.units = search rules in
    not_fitting c.args.scale c.args.number c.in-Ok.units c.from.result n factor offset units c.from.ensures c.in-Ok.ensures.ok c.in-None.ensures small w
