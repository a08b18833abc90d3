-- What has a reserved function code is refused under it, and all else goes through.
use Rattle.std.proofs.Common.{◌≡◌, ℕ, ◌<◌, ◌≤◌, ◌==◌, Bool, true, false, cond, not, List, [], ◌∷◌, refl, ap, ◌∙◌, subst, arith}
use Rattle.std.specs.Prelude.{Some, None, Result, Ok, Err, ◌&&◌, nat_lt, nat_le}
use Rattle.std.proofs.lemmas.Bool.Decides.{nat_tests}
use Rattle.modbus_frame.specs.Codes.{exception_number}
use Rattle.modbus_frame.specs.FunctionCodes.{exception_bit}
use Rattle.modbus_frame.specs.Meaning.{Asked, Custom}
use Rattle.modbus_frame.specs.declared.code.ExceptionCode.TheVariants.{IllegalFunction}
use Rattle.modbus_frame.specs.declared.fault.Reason.{Reason}
use Rattle.modbus_frame.specs.declared.fault.Reason.TheVariants.{InvalidQuantity}
use Rattle.modbus_frame.specs.declared.response.Response.TheVariants as response
use Rattle.modbus_pdu.specs.RequestOf.{request_of}
use Rattle.modbus_service.specs.OnlyUnit.{Giving}
use Rattle.modbus_service.specs.Outcome.{Outcome, reply}
use Rattle.modbus_field.specs.declared.standard.answers.StandardAnswers.{StandardAnswers}
use Rattle.modbus_field.specs.ReservedCodes.{first_reserved, reserved_code, under_code, GivesUnder, RefusesReserved, PassesOthers}
use Rattle.modbus_field.specs.StandardAnswers.{standard_answers}
use Rattle.modbus_field.specs.Unread.{no_function, any_request_of, begins_request, has_spare_bytes, strictly, read_or, unread_of}
use Rattle.modbus_field.proofs.Read.{read}

-- a code that is reserved begins no request
high : (code : ℕ) → exception_bit ≤ code → (not (code == no_function) && nat_lt code exception_bit) ≡ false
high code reserved = grind (arith, nat_tests)

code_of_high : (code : ℕ) → exception_bit ≤ code → nat_le exception_bit code ≡ true
code_of_high code reserved = grind (arith, nat_tests)

asks_none : (code : ℕ) (rest : List ℕ) → exception_bit ≤ code → any_request_of (code ∷ rest) ≡ Custom no_function (code ∷ rest)
unfolding any_request_of
asks_none code rest reserved =
    let pdu = code ∷ rest in
    ap (λ b. cond b (read_or code rest (strictly pdu (request_of pdu))) (Custom no_function pdu)) (high code reserved)

is_reserved : (code : ℕ) (rest : List ℕ) → exception_bit ≤ code → reserved_code (Custom no_function (code ∷ rest)) ≡ Some code
is_reserved code rest reserved = ap (λ b. cond b (Some code) None) (code_of_high code reserved)

module _ {S : Type 0} (gives : Giving S) (takes : S → ℕ → Asked → Type 0) where
  told_so : (old new : StandardAnswers S) (unit code : ℕ) (request : Asked) (outcome : Outcome)
      → GivesUnder (standard_answers gives takes) (Some code) old unit request outcome new
      → (outcome ≡ reply (response.Custom code (exception_number IllegalFunction ∷ []))) × (new ≡ old)
  told_so old new unit code request outcome (told, (refused, stays), same) = (same ∙ ap (under_code code) refused, stays)

  pub refused : RefusesReserved gives takes
  refused old new unit code rest outcome reserved did =
      let request = any_request_of (code ∷ rest) in
      let is : reserved_code request ≡ Some code = ap reserved_code (asks_none code rest reserved) ∙ is_reserved code rest reserved in
      told_so old new unit code request outcome (subst (λ c. GivesUnder (standard_answers gives takes) c old unit request outcome new) is did)

-- what could be read has no reserved code
custom_read : (code : ℕ) (bytes : List ℕ) → unread_of (Custom code bytes) ≡ None → (code == no_function) ≡ false
custom_read code bytes none = grind (arith, nat_tests)

other_code : (code : ℕ) (bytes : List ℕ) → (code == no_function) ≡ false → reserved_code (Custom code bytes) ≡ None
other_code code bytes other = ap (λ b. cond b (first_reserved bytes) None) other

was_read : (request : Asked) → unread_of request ≡ None → reserved_code request ≡ None
was_read (Custom code bytes) none = other_code code bytes (custom_read code bytes none)
was_read _ none = refl

chosen : (code : ℕ) (rest : List ℕ) (r : Result Asked Reason) → (code == no_function) ≡ false
    → ((request : Asked) → r ≡ Ok request → unread_of request ≡ None) → reserved_code (read_or code rest r) ≡ None
chosen code rest (Ok request) other reads = was_read request (reads request refl)
chosen code rest (Err reason) other reads = other_code code rest other

strict : (b : Bool) (reason : Reason) (r : Result Asked Reason) (request : Asked) → cond b (Err reason) r ≡ Ok request → r ≡ Ok request
strict true reason r request e = cc
strict false reason r request e = e

begun : (code : ℕ) → (not (code == no_function) && nat_lt code exception_bit) ≡ true → (code == no_function) ≡ false
begun code begins = grind (arith, nat_tests)

some : (code : ℕ) → (code == no_function) ≡ false → 0 < code
some code other = grind (arith, nat_tests)

low : (code : ℕ) → code < exception_bit → nat_le exception_bit code ≡ false
low code below = grind (arith, nat_tests)

begins_or_not : (code : ℕ) (rest : List ℕ) (b : Bool) → code < exception_bit → (not (code == no_function) && nat_lt code exception_bit) ≡ b
    → reserved_code (cond b (read_or code rest (strictly (code ∷ rest) (request_of (code ∷ rest)))) (Custom no_function (code ∷ rest))) ≡ None
begins_or_not code rest true below begins =
    let other = begun code begins in
    let pdu = code ∷ rest in
    chosen code rest (strictly pdu (request_of pdu)) other
    (λ request is. read code rest request (some code other) (strict (has_spare_bytes pdu) InvalidQuantity (request_of pdu) request is))
begins_or_not code rest false below begins = ap (λ b. cond b (Some code) None) (low code below)

pub others : PassesOthers
unfolding any_request_of
others code rest below = begins_or_not code rest (begins_request (code ∷ rest)) below refl
