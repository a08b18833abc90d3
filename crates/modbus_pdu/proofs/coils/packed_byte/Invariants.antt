use Rattle.std.proofs.Common.{◌≡◌, ◌<◌, ◌^◌}
use Rattle.modbus_pdu.specs.Fields.{bits_at}
use Rattle.modbus_pdu.proofs.coils.packed_byte.Given as goal

abbrev pub invariant-loop-i : goal.invariant-loop-i
invariant-loop-i l = (l.byte ≡ bits_at l.coils l.place l.i) × (l.byte < 2 ^ l.i)
