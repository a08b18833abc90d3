use Rattle.std.proofs.Common.{arith}
use Rattle.modbus_map.proofs.Trimmed.{more_other, more_zero}
use Rattle.modbus_map.proofs.text.trimmed.Goals as goal
use Rattle.modbus_map.proofs.text.trimmed.Goals.{then-byte-ne0, else-byte-ne0}

pub loop-place-preserved : goal.loop-place-preserved
loop-place-preserved c = elim c.if-byte-ne0.branch [
  | then-byte-ne0 w ↦ record {
    within = omega arith;
    kept = rw w.end-is (more_other c.args.bytes.now c.loop-place.place c.loop-place-test.true w.if-byte-ne0.true);
  }
  | else-byte-ne0 w ↦ record {
    within = omega arith;
    kept = rw w.end-is (more_zero c.args.bytes.now c.loop-place.place c.loop-place.end c.loop-place-test.true w.if-byte-ne0.false c.loop-place.invariant.kept);
  }
]
