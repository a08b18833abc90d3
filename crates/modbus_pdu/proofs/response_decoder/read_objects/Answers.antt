use Rattle.std.proofs.Common.{◌∙◌}
use Rattle.std.proofs.lemmas.Result.{err_from_is_err_and}
use Rattle.modbus_pdu.specs.ResponseOf.{objects_at}
use Rattle.modbus_pdu.proofs.ReadObjects.{goes_on, ends, is_done}
use Rattle.modbus_pdu.proofs.response_decoder.read_objects.Goals as goal

pub returns-in_err-object-clause-value : goal.returns-in_err-object-clause-value
returns-in_err-object-clause-value c =
    let p = err_from_is_err_and c.from_residual.result c.from_residual.ensures.1 in
    rw (p.1, p.2) (ends c.in_err-object.field-0.0 c.loop.found.items c.args.count c.loop.counter c.loop.cursor.at c.args.pdu.now (objects_at c.args.count c.args.cursor.now.at c.args.pdu.now) c.loop-test.true c.in_err-object.ensures.value c.loop.invariant.0)

pub loop-preserved : goal.loop-preserved
loop-preserved c =
    let o = c.in_ok-object.object in
    (rw c.in_ok-push.ensures.items (goes_on c.loop.found.items c.args.count c.loop.counter c.loop.cursor.at c.next_object.new.cursor.at c.args.pdu.now o (objects_at c.args.count c.args.cursor.now.at c.args.pdu.now) c.loop-test.true c.in_ok-object.ensures.value c.loop.invariant.0), c.in_ok-object.ensures.bytes ∙ c.loop.invariant.1)

pub returns-clause-value : goal.returns-clause-value
returns-clause-value c = is_done c.loop.found.items c.args.count c.loop.counter c.loop.cursor.at c.args.pdu.now (objects_at c.args.count c.args.cursor.now.at c.args.pdu.now) c.loop-test.false c.loop.invariant.0
