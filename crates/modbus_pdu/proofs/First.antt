-- What the first byte of a PDU asks for.
use Rattle.std.proofs.Common.{◌≡◌, ℕ, ◌<◌, ◌≤◌, List, [], ◌∷◌, length, get_or, Err, refl, arith}
use Rattle.modbus_frame.specs.declared.fault.Reason.TheVariants.{UnexpectedEnd}
use Rattle.modbus_pdu.specs.RequestOf.{request_of, asked_by}

pub no_byte : (pdu : List ℕ) → length pdu < 1 → request_of pdu ≡ Err UnexpectedEnd
unfolding request_of
no_byte [] none = refl
no_byte (x ∷ xs) none = absurd (omega arith)

pub by_first : (pdu : List ℕ) → 1 ≤ length pdu → request_of pdu ≡ asked_by (get_or pdu 0 0) pdu
unfolding request_of
by_first [] some = absurd (omega arith)
by_first (x ∷ xs) some = refl
