use Rattle.std.proofs.lemmas.Result.{err_from_is_err_and}
use Rattle.modbus_pdu.proofs.PlacesAfter.{goes_on, is_refused, is_done}
use Rattle.modbus_pdu.proofs.response_decoder.objects_end.Goals as goal

pub returns-in_err-end : goal.returns-in_err-end
returns-in_err-end c =
    let p = err_from_is_err_and c.from_residual.result c.from_residual.ensures.1 in
    rw (p.1, p.2) (is_refused c.args.pdu.now c.args.count c.loop.counter c.loop.end _ c.in_err-end.field-0.0 c.loop-test.true c.in_err-end.ensures.end c.loop.invariant.left)

pub loop-preserved : goal.loop-preserved
loop-preserved c = record {
  left = goes_on c.args.pdu.now c.args.count c.loop.counter c.loop.end _ c.in_ok-end.end c.loop-test.true c.in_ok-end.ensures.end c.loop.invariant.left;
  within = c.in_ok-end.ensures.within;
}

pub returns : goal.returns
returns c = is_done c.args.pdu.now c.args.count c.loop.counter c.loop.end _ c.loop-test.false c.loop.invariant.left
