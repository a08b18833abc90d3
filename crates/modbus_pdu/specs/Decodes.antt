-- What the bytes of a PDU decode to: a value, or the reason that comes first.
use Rattle.std.specs.Prelude.{◌≡◌, ℕ, Some, None, Result, Ok, Err}
use Rattle.modbus_frame.specs.declared.fault.Reason.{Reason}
use Rattle.modbus_frame.specs.declared.fault.Reason.TheVariants as reason
use Rattle.modbus_frame.specs.declared.fault.PduError.{PduError}
use Rattle.modbus_frame.specs.declared.fault.PduError.TheVariants as error
use Rattle.modbus_frame.specs.declared.code.ReadCode.{ReadCode}
use Rattle.modbus_frame.specs.Codes.{read_code_of}

-- decoding that goes on with the value, and stops at a reason
infixl 10 ◌>>=◌
abbrev pub ◌>>=◌ : {A B : Type 0} → Result A Reason → (A → Result B Reason) → Result B Reason
(Ok x) >>= f = f x
(Err e) >>= f = Err e

-- The bytes are refused for this reason; memory may be refused at any of them.
abbrev pub Fails : {Y : Type 0} → PduError → Result Y Reason → Type 0
Fails error.NoMemory read = Unit {0}
Fails (error.Refused reason) read = read ≡ Err reason

-- What a function answered, seen by view, is what the bytes decode to, unless memory ran out.
abbrev pub Decodes : {X Y : Type 0} → (X → Y) → Result X PduError → Result Y Reason → Type 0
Decodes view (Ok x) read = read ≡ Ok (view x)
Decodes view (Err e) read = Fails e read

-- the read code of a number, or its refusal (V1.1b3, 6.21)
abbrev pub read_code_or : ℕ → Result ReadCode Reason
read_code_or number = elim (read_code_of number) [ None ↦ Err (reason.InvalidReadCode number) | Some code ↦ Ok code ]
