-- What an encoder refuses, and what it does.
use Rattle.std.specs.Prelude.{◌≡◌, ℕ, ◌<◌, ◌≤◌, ◌-◌, ◌^◌, List, ◌++◌, length, min, Result, Err, OnOk, OnErr, IfErr}
use Rattle.modbus_frame.specs.declared.fault.EncodeError.{EncodeError}
use Rattle.modbus_frame.specs.declared.fault.EncodeError.TheVariants as error
use Rattle.modbus_pdu.specs.Limits.{max_pdu}

-- How many bytes a PDU has at most (Modbus Application Protocol V1.1b3, section 4.1).
abbrev pub Fits : List ℕ → Type 0
Fits pdu = length pdu ≤ max_pdu

-- the size that a refusal tells: the greatest number stands for more than that
abbrev pub told_size : List ℕ → ℕ
told_size pdu = min (length pdu) (2 ^ 64 - 1)

-- A PDU that doesn't fit is too long, with its size; memory is wanting only for one that fits.
abbrev pub Refuses : EncodeError → List ℕ → Type 0
Refuses (error.TooLong size) pdu = (max_pdu < length pdu) × (size ≡ told_size pdu)
Refuses error.NoMemory pdu = Fits pdu

-- An encoder appends a frame, or an ADU with an MBAP header, where the PDU in it fits; where it refuses, the buffer is as it was.
pub record Encodes (adu pdu old : List ℕ) (result : Result (Unit {0}) EncodeError) (new : List ℕ) : Type 0 where
  pub ok : OnOk result (new ≡ old ++ adu)
  pub fits : OnOk result (Fits pdu)
  pub too_long : max_pdu < length pdu → result ≡ Err (error.TooLong (told_size pdu))
  pub cause : IfErr result (λ refusal. Refuses refusal pdu)
  pub err : OnErr result (new ≡ old)
