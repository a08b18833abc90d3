use Rattle.std.proofs.Common.{◌≡◌}
use Rattle.modbus_frame.specs.Meaning.{meaning}
use Rattle.modbus_field.specs.Unread.{any_request_of}
use Rattle.modbus_c.proofs.Hearing.{responded, refused}
use Rattle.modbus_c.proofs.line.answer.Goals as goal

pub returns-in-Ok-Some-clause-tells : goal.returns-in-Ok-Some-clause-tells
returns-in-Ok-Some-clause-tells g c =
    let asked = any_request_of c.args.pdu.now in let request = meaning c.in-Ok.request in
    let same : asked ≡ request = (let e = c.in-Ok.ensures.value in cc) in
    rw c.in-Ok-Some.field-0-is (responded g.U.LineUnit.units c.args.slave asked request c.in-Ok-Some.response c.args.units.now c.ask_units.new.units same
    (rw c.in-Ok-Some.field-0-is at c.in-Ok-Some.ensures.tells))

pub returns-in-Err-clause-tells : goal.returns-in-Err-clause-tells
returns-in-Err-clause-tells g c =
    let asked = any_request_of c.args.pdu.now in let request = meaning c.in-Ok.request in
    let same : asked ≡ request = (let e = c.in-Ok.ensures.value in cc) in
    refused g.U.LineUnit.units c.args.slave asked request c.in-Err.exception c.function_code-function.result c.args.units.now c.ask_units.new.units same
    c.function_code-function.ensures c.in-Err.ensures.tells
