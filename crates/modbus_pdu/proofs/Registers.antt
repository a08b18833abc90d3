-- Registers that are missing.
use Rattle.std.proofs.Common.{◌≡◌, ℕ, ◌+◌, ◌<◌, List, length, Err, arith}
use Rattle.std.proofs.lemmas.Bool.Decides.{nat_tests}
use Rattle.modbus_frame.specs.declared.fault.Reason.TheVariants.{UnexpectedEnd}
use Rattle.modbus_pdu.specs.RequestOf.{registers_at}

pub registers_missing : (place : ℕ) (pdu : List ℕ) → length pdu < place + 3 → registers_at place pdu ≡ Err UnexpectedEnd
unfolding registers_at
registers_missing place pdu short = grind (arith, nat_tests)
