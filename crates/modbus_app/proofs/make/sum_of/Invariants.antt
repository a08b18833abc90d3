use Rattle.std.proofs.Common.{◌≡◌, ◌+◌, ◌*◌, ◌≤◌, sum, length}
use Rattle.modbus_app.proofs.make.sum_of.Given as goal

abbrev pub invariant-loop-rest : goal.invariant-loop-rest
invariant-loop-rest l = record {
  whole : l.sum + sum l.rest ≡ sum l.bytes;
  fits : l.sum + 4_294_967_295 * length l.rest ≤ 4_294_967_295 * length l.bytes;
}

abbrev pub decreases-loop-rest : goal.decreases-loop-rest
decreases-loop-rest l = length l.rest
