use Rattle.std.proofs.Common.{◌≡◌, ◌*◌, take}
use Rattle.modbus_pdu.specs.Fields.{coils_of}
use Rattle.modbus_pdu.proofs.coils.read_coils.Given as goal

abbrev pub invariant-loop-k : goal.invariant-loop-k
invariant-loop-k l = take (8 * l.k) l.coils ≡ coils_of l.bytes (8 * l.k)

abbrev pub invariant-loop-i : goal.invariant-loop-i
invariant-loop-i l = take l.i l.coils ≡ coils_of l.bytes l.i
