use Rattle.std.proofs.Common.{sym, ◌∙◌, arith}
use Rattle.std.proofs.lemmas.List.{drop-drop, length-drop, take_rest}
use Rattle.modbus_link.specs.Passes.{wrote_more}
use Rattle.modbus_link.proofs.write.flush.Goals as goal

pub loop-written-preserved : goal.loop-written-preserved
loop-written-preserved g c =
    let wrote = rw c.in-Ready.is at c.in_ok-poll_write.ensures in
    let rest = length-drop c.loop-written.written c.args.bytes.now in
    record {
      within = omega (arith, wrote.bound, rest, c.loop-written.invariant.within);
      sends = wrote_more _ _ _ _ _ _ _ c.in-Ready.count c.loop-written.invariant.sends wrote.sink wrote.told (take_rest c.args.bytes.now c.loop-written.written) (sym (drop-drop c.in-Ready.count c.loop-written.written c.args.bytes.now));
      later = omega (arith, c.loop-written.invariant.later, wrote.later);
      source = wrote.source ∙ c.loop-written.invariant.source;
      line = wrote.line ∙ c.loop-written.invariant.line;
    }
