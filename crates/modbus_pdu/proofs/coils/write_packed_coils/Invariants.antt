use Rattle.std.proofs.Common.{◌≡◌, ℕ, ◌*◌, ◌<◌, get_or}
use Rattle.modbus_pdu.specs.Fields.{bits_at}
use Rattle.modbus_pdu.proofs.coils.write_packed_coils.Given as goal

abbrev pub invariant-loop-k : goal.invariant-loop-k
invariant-loop-k l = (j : ℕ) → j < l.k → get_or l.bytes j 0 ≡ bits_at l.coils (8 * j) 8
