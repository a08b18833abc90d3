use Rattle.std.proofs.Common.{◌≡◌, ◌%◌, take, sum}
use Rattle.modbus_ascii.proofs.checksum.lrc.Given as goal

-- the sum of the bytes so far, modulo 256
abbrev pub invariant-loop-byte : goal.invariant-loop-byte
invariant-loop-byte l = l.sum ≡ sum (take l.byte-index l.bytes) % 256
