-- What a codec answers to a byte.
use Rattle.std.specs.Prelude.{◌≡◌, ℕ, List, [], ◌∷◌, Option, Some, None, Result, Ok, Err}
use Rattle.modbus_pdu.specs.SlavePdu.{SlavePdu}
use Rattle.modbus_pdu.specs.Message.{message}
use Rattle.modbus_frame.specs.declared.fault.Reason.{Reason}
use Rattle.modbus_frame.specs.declared.fault.PduError.{PduError}
use Rattle.modbus_frame.specs.declared.fault.PduError.TheVariants as pdu_errors
use Rattle.modbus_ascii.specs.declared.codec.AsciiError.{AsciiError}
use Rattle.modbus_ascii.specs.declared.codec.AsciiError.TheVariants as errors

-- why a codec gives no message, of a frame whose PDU is not read
abbrev pub error_of : PduError → AsciiError
error_of (pdu_errors.Refused reason) = errors.Invalid reason
error_of pdu_errors.NoMemory = errors.NoMemory

-- Of the frames that a byte delivers, which are none or one: there is none; or its PDU is read, and `slave` and `meaning` are what the
-- answer tells of it; or its PDU is refused for this reason; or memory was wanting for it, which says something of its PDU.
abbrev pub AnswersBy : {A M : Type 0} → (List ℕ → Result M Reason) → (List ℕ → Type 0) → (A → ℕ) → (A → M) → List SlavePdu → Result (Option A) AsciiError → Type 0
AnswersBy read wants slave meaning delivered (Ok None) = delivered ≡ []
AnswersBy read wants slave meaning delivered (Ok (Some adu)) =
    (pdu : List ℕ) × (delivered ≡ message (slave adu) pdu ∷ []) × (read pdu ≡ Ok (meaning adu))
AnswersBy read wants slave meaning delivered (Err (errors.Invalid reason)) =
    (frame : SlavePdu) × (delivered ≡ frame ∷ []) × (read frame.pdu ≡ Err reason)
AnswersBy read wants slave meaning delivered (Err errors.NoMemory) =
    (frame : SlavePdu) × (delivered ≡ frame ∷ []) × wants frame.pdu
