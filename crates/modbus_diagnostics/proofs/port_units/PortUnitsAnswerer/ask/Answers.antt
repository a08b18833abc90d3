use Rattle.std.proofs.Common.{◌≡◌, ◌≢◌, length, set, refl, subst, Option, None}
use Rattle.modbus_frame.specs.Meaning.{meaning}
use Rattle.modbus_frame.specs.declared.code.ExceptionCode.{ExceptionCode}
use Rattle.modbus_service.specs.Answering.{Keeps}
use Rattle.modbus_service.specs.Units.{LineUnits, FirstAt, units_answering}
use Rattle.modbus_diagnostics.proofs.Places.{keeps_one}
use Rattle.modbus_diagnostics.proofs.port_units.PortUnitsAnswerer.ask.Goals as goal

pub returns-in-Some : goal.returns-in-Some
returns-in-Some g c =
    let A = g.S.Answerer.answering in
    let request = meaning c.args.request.request in
    let units = c.self.inside.units.items in
    let absent : Option ExceptionCode = None in
    let new : LineUnits g.row.S.Denot =
    record { units = set units c.in-Some.place (record { unit = c.index_mut.result.now.unit; service = c.ask.new.self }); absent = absent } in
    let one : c.args.request.slave ≢ 0 = λ zero. (let on = c.is_broadcast.ensures.1 zero in cc) in
    let found = subst (λ us. (at : FirstAt c.args.request.slave us) × (length at.before ≡ c.in-Some.place)) c.deref.ensures.value c.in-Some.ensures in
    subst (λ old. Keeps (units_answering A) old c.args.request.slave request c.ask.result new) c.self.view_is
    (keeps_one A (record { units = units; absent = absent }) new c.args.request.slave request c.ask.result found.0 c.in-Some.place
    c.index_mut.result.now c.ask.new.self one refl found.1 c.index_mut.ensures.value refl c.ask.ensures)
