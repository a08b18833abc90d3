-- What stands where a PDU is asks as noise only where there is no byte of it.
use Rattle.std.proofs.Common.{◌≡◌, ℕ, ◌<◌, ◌==◌, true, false, Bool, cond, not, List, [], ◌∷◌, refl, arith}
use Rattle.std.specs.Prelude.{None, Result, Ok, Err, ◌&&◌, nat_lt}
use Rattle.std.proofs.lemmas.Bool.Decides.{nat_tests}
use Rattle.modbus_frame.specs.FunctionCodes.{exception_bit}
use Rattle.modbus_frame.specs.Meaning.{Asked, Custom}
use Rattle.modbus_frame.specs.declared.fault.Reason.{Reason}
use Rattle.modbus_frame.specs.declared.fault.Reason.TheVariants.{InvalidQuantity}
use Rattle.modbus_pdu.specs.RequestOf.{request_of}
use Rattle.modbus_field.specs.Unread.{no_function, any_request_of, begins_request, has_spare_bytes, strictly, read_or, unread_of}
use Rattle.modbus_diagnostics.specs.Heard.{is_noise}

-- requests that could be read stand for nothing else
abbrev pub AreRead : Type 0
AreRead = (code : ℕ) (rest : List ℕ) (request : Asked) → 0 < code → request_of (code ∷ rest) ≡ Ok request → unread_of request ≡ None

unread_custom : (code : ℕ) → unread_of (Custom code []) ≡ None → (code == no_function) ≡ false
unread_custom code none = grind (arith, nat_tests)

read_is_none : (request : Asked) → unread_of request ≡ None → is_noise request ≡ false
read_is_none (Custom code []) none = unread_custom code none
read_is_none (Custom code (byte ∷ bytes)) none = refl
read_is_none _ none = refl

unknown_is_none : (code : ℕ) (rest : List ℕ) → (code == no_function) ≡ false → is_noise (Custom code rest) ≡ false
unknown_is_none code [] other = other
unknown_is_none code (byte ∷ bytes) other = refl

begun : (code : ℕ) → (not (code == no_function) && nat_lt code exception_bit) ≡ true → (code == no_function) ≡ false
begun code begins = grind (arith, nat_tests)

some : (code : ℕ) → (code == no_function) ≡ false → 0 < code
some code other = grind (arith, nat_tests)

chosen : (code : ℕ) (rest : List ℕ) (r : Result Asked Reason) → (code == no_function) ≡ false
    → ((request : Asked) → r ≡ Ok request → unread_of request ≡ None) → is_noise (read_or code rest r) ≡ false
chosen code rest (Ok request) other read = read_is_none request (read request refl)
chosen code rest (Err reason) other read = unknown_is_none code rest other

-- what is read strictly is read
strict : (b : Bool) (reason : Reason) (r : Result Asked Reason) (request : Asked) → cond b (Err reason) r ≡ Ok request → r ≡ Ok request
strict true reason r request e = cc
strict false reason r request e = e

begins_or_not : (code : ℕ) (rest : List ℕ) (b : Bool) → (not (code == no_function) && nat_lt code exception_bit) ≡ b → AreRead
    → is_noise (cond b (read_or code rest (strictly (code ∷ rest) (request_of (code ∷ rest)))) (Custom no_function (code ∷ rest))) ≡ false
begins_or_not code rest true begins read =
    let other = begun code begins in
    let pdu = code ∷ rest in
    chosen code rest (strictly pdu (request_of pdu)) other
    (λ request is. read code rest request (some code other) (strict (has_spare_bytes pdu) InvalidQuantity (request_of pdu) request is))
begins_or_not code rest false begins read = refl

pub bytes_are_no_noise : AreRead → (code : ℕ) (rest : List ℕ) → is_noise (any_request_of (code ∷ rest)) ≡ false
unfolding any_request_of
bytes_are_no_noise read code rest = begins_or_not code rest (begins_request (code ∷ rest)) refl read

pub no_byte_is_noise : is_noise (any_request_of []) ≡ true
unfolding any_request_of
no_byte_is_noise = refl
