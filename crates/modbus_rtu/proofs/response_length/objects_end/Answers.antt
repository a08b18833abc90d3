use Rattle.std.proofs.Common.{arith, ◌∙◌}
use Rattle.modbus_rtu.proofs.Objects.{goes_on, lacks_bytes, is_done}
use Rattle.modbus_rtu.proofs.response_length.objects_end.Goals as goal

pub returns-in_err-place-clause-exact : goal.returns-in_err-place-clause-exact
returns-in_err-place-clause-exact c =
    let missing = lacks_bytes c.args.adu.now c.args.count c.loop.counter c.loop.place _ c.loop-test.true c.in_err-place.ensures.exact c.loop.invariant.left in
    c.from_residual.ensures ∙ missing

pub loop-preserved : goal.loop-preserved
loop-preserved c =
    record {
      left = goes_on c.args.adu.now c.args.count c.loop.counter c.loop.place _ c.in_ok-place.place c.loop-test.true c.in_ok-place.ensures.exact c.loop.invariant.left;
      from = omega (arith, c.in_ok-place.ensures.within);
      within = omega (arith, c.in_ok-place.ensures.within);
      most = omega (arith, c.in_ok-place.ensures.within);
    }

pub returns-clause-exact : goal.returns-clause-exact
returns-clause-exact c = is_done c.args.adu.now c.args.count c.loop.counter c.loop.place _ c.loop-test.false c.loop.invariant.left
