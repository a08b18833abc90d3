-- What is asked by bytes of which is known whether they begin with the function code of a request.
use Rattle.std.proofs.Common.{◌≡◌, ℕ, List, drop, true, false, refl}
use Rattle.std.specs.Prelude.{slice_index}
use Rattle.modbus_frame.specs.Meaning.{Custom}
use Rattle.modbus_pdu.specs.RequestOf.{request_of}
use Rattle.modbus_field.specs.Unread.{any_request_of, begins_request, has_spare_bytes, no_function, read_or}

pub of_request : (pdu : List ℕ) → begins_request pdu ≡ true → has_spare_bytes pdu ≡ false → any_request_of pdu ≡ read_or (slice_index pdu 0) (drop 1 pdu) (request_of pdu)
unfolding any_request_of
of_request pdu e exact = rw (e, exact) refl

pub of_spare_bytes : (pdu : List ℕ) → begins_request pdu ≡ true → has_spare_bytes pdu ≡ true → any_request_of pdu ≡ Custom (slice_index pdu 0) (drop 1 pdu)
unfolding any_request_of
of_spare_bytes pdu e spare = rw (e, spare) refl

pub of_none : (pdu : List ℕ) → begins_request pdu ≡ false → any_request_of pdu ≡ Custom no_function pdu
unfolding any_request_of
of_none pdu e = rw e refl
