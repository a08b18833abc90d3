-- A service as one of the devices that share a line (MODBUS over Serial Line V1.02, sections 2.1 and 2.2).
use Rattle.std.specs.Prelude.{◌≡◌, ◌≢◌, ◌⊎◌, ℕ, Option, Result, Ok, Err, alloc_error}
use Rattle.std.specs.declared.alloc.AllocError.{AllocError}
use Rattle.modbus_frame.specs.Meaning.{Asked}
use Rattle.modbus_frame.specs.declared.response.Response.{Response}
use Rattle.modbus_service.specs.declared.service.ServiceError.{ServiceError}
use Rattle.modbus_service.specs.declared.service.ServiceError.TheVariants.{Exception, NoMemory}
use Rattle.modbus_service.specs.declared.only_unit.OnlyUnit.{OnlyUnit}
use Rattle.modbus_service.specs.Outcome.{Outcome, silence}

-- the type of a relation of what a service gives
abbrev pub Giving : Type 0 → Type 1
Giving S = S → ℕ → Asked → Outcome → S → Type 0

-- what is left of an answer that is not sent
abbrev pub unsent_answer : Result (Option Response) ServiceError → Result (Unit {0}) AllocError
unsent_answer (Ok answer) = Ok tt
unsent_answer (Err (Exception code)) = Ok tt
unsent_answer (Err NoMemory) = Err alloc_error

-- What the service at an address does with a request that came over the line: a broadcast is done, and nothing is answered; a request
-- for this address is answered; a request for another is not heard.
abbrev pub only_unit : {S : Type 0} → Giving S → Giving (OnlyUnit S)
only_unit gives old slave request outcome new =
    (new.unit ≡ old.unit)
    × ((slave ≡ 0) × (outcome ≡ silence) × ((told : Outcome) × gives old.service slave request told new.service)
    ⊎ ((slave ≢ 0) × (slave ≡ old.unit) × gives old.service slave request outcome new.service
    ⊎ (slave ≢ 0) × (slave ≢ old.unit) × (outcome ≡ silence) × (new.service ≡ old.service)))

-- it may take memory for a request that it hears
abbrev pub only_unit_takes : {S : Type 0} → (S → ℕ → Asked → Type 0) → OnlyUnit S → ℕ → Asked → Type 0
only_unit_takes takes it slave request = ((slave ≡ 0) ⊎ (slave ≡ it.unit)) × takes it.service slave request
