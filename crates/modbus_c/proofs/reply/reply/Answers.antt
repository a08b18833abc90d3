use Rattle.std.proofs.Common.{◌≡◌, Ok}
use Rattle.modbus_frame.specs.Meaning.{meaning}
use Rattle.modbus_pdu.specs.RequestOf.{request_of}
use Rattle.modbus_store.specs.Tables.{Tables}
use Rattle.modbus_store.specs.Lent.{lent}
use Rattle.modbus_c.proofs.Replying.{silently, responded, refused}
use Rattle.modbus_c.proofs.reply.reply.Goals as goal

pub returns-in-Ok-None-clause-replies : goal.returns-in-Ok-None-clause-replies
returns-in-Ok-None-clause-replies c =
    let old : Tables = lent c.args.tables.now in
    let new : Tables = lent c.apply.new.self in
    let e : request_of c.args.pdu.now ≡ Ok (meaning c.in_ok-request.request) = c.in_ok-request.ensures.value in
    silently old c.args.slave c.args.pdu.now (meaning c.in_ok-request.request) new e (rw c.in-Ok-None.field-0-is at c.in-Ok-None.ensures)

pub returns-in-Ok-Some-clause-replies : goal.returns-in-Ok-Some-clause-replies
returns-in-Ok-Some-clause-replies c =
    let old : Tables = lent c.args.tables.now in
    let new : Tables = lent c.apply.new.self in
    let e : request_of c.args.pdu.now ≡ Ok (meaning c.in_ok-request.request) = c.in_ok-request.ensures.value in
    rw c.in-Ok-Some.field-0-is (responded old c.args.slave c.args.pdu.now (meaning c.in_ok-request.request) c.in-Ok-Some.response new e (rw c.in-Ok-Some.field-0-is at c.in-Ok-Some.ensures))

pub returns-in-Err-Exception-clause-replies : goal.returns-in-Err-Exception-clause-replies
returns-in-Err-Exception-clause-replies c =
    let old : Tables = lent c.args.tables.now in
    let new : Tables = lent c.apply.new.self in
    let e : request_of c.args.pdu.now ≡ Ok (meaning c.in_ok-request.request) = c.in_ok-request.ensures.value in
    refused old c.args.slave c.args.pdu.now (meaning c.in_ok-request.request) c.in-Err-Exception.exception new c.function_code-function.result c.function_code-function.ensures e
    (rw c.in-Err-Exception.field-0-is at c.in-Err-Exception.ensures)
