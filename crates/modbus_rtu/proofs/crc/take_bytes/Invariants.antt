use Rattle.std.proofs.Common.{◌≡◌, fold, length}
use Rattle.modbus_rtu.specs.Checksum.{with_byte}
use Rattle.modbus_rtu.proofs.crc.take_bytes.Given as goal

abbrev pub invariant-loop-rest : goal.invariant-loop-rest
invariant-loop-rest l = fold with_byte l.register l.rest ≡ fold with_byte l.opening l.bytes

abbrev pub decreases-loop-rest : goal.decreases-loop-rest
decreases-loop-rest l = length l.rest
