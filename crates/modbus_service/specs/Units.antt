-- Several services behind their addresses on one link (MODBUS over Serial Line V1.02, sections 2.1 and 2.2).
use Rattle.std.specs.Prelude.{◌≡◌, ◌≢◌, ◌≤◌, ◌⊎◌, ℕ, List, ◌∷◌, ◌++◌, All, AllPairs, Option, Some, None, Result, Ok, Err}
use Rattle.std.specs.List.{AllZip}
use Rattle.modbus_frame.specs.Meaning.{Asked}
use Rattle.modbus_frame.specs.declared.code.ExceptionCode.{ExceptionCode}
use Rattle.modbus_service.specs.declared.only_unit.OnlyUnit.{OnlyUnit}
use Rattle.modbus_service.specs.declared.units.UnitsError.{UnitsError}
use Rattle.modbus_service.specs.declared.units.UnitsError.TheVariants.{OutOfRange, Twice}
use Rattle.modbus_service.specs.Outcome.{Outcome, silence, exception}
use Rattle.modbus_service.specs.Answering.{Answering}

-- the units of a link, and the exception for an address that none has
pub record LineUnits (S : Type 0) : Type 0 where
  pub units : List (OnlyUnit S)
  pub absent : Option ExceptionCode

-- none of these units has the address
abbrev pub NoneAt : {S : Type 0} → ℕ → List (OnlyUnit S) → Type 0
NoneAt slave units = All (λ it. it.unit ≢ slave) units

-- the service at an address
abbrev pub unit_at : {S : Type 0} → ℕ → S → OnlyUnit S
unit_at slave service = record { unit = slave; service = service }

-- the first unit at an address, among these
pub record FirstAt {S : Type 0} (slave : ℕ) (units : List (OnlyUnit S)) : Type 0 where
  pub before : List (OnlyUnit S)
  pub service : S
  pub after : List (OnlyUnit S)
  pub none_before : NoneAt slave before
  pub is : units ≡ before ++ unit_at slave service ∷ after

-- the addresses are those of single devices, and no two are the same
abbrev pub Proper : {S : Type 0} → List (OnlyUnit S) → Type 0
Proper units = All (λ it. (1 ≤ it.unit) × (it.unit ≤ 247)) units × AllPairs (λ a b. a.unit ≢ b.unit) units

-- the first unit that makes units improper, and why
pub record Improper {S : Type 0} (slave : ℕ) (why : List (OnlyUnit S) → Type 0) (units : List (OnlyUnit S)) : Type 0 where
  pub before : List (OnlyUnit S)
  pub service : S
  pub after : List (OnlyUnit S)
  pub is : units ≡ before ++ unit_at slave service ∷ after
  pub proper_before : Proper before
  pub cause : why before

-- what is told of the addresses of units
abbrev pub Checks : {S : Type 0} → List (OnlyUnit S) → Result (Unit {0}) UnitsError → Type 0
Checks units (Ok done) = Proper units
Checks units (Err (OutOfRange slave)) = Improper slave (λ before. (slave ≡ 0) ⊎ (248 ≤ slave)) units
Checks units (Err (Twice slave)) = Improper slave (λ before. FirstAt slave before) units

-- units that were made
abbrev pub MakesUnits : {S : Type 0} → List (OnlyUnit S) → Option ExceptionCode → Result (LineUnits S) UnitsError → Type 0
MakesUnits units absent (Ok line) = (line ≡ record { units = units; absent = absent }) × Checks units (Ok tt)
MakesUnits units absent (Err error) = Checks units (Err error)

-- a unit did a broadcast, whatever it answered
abbrev pub Did : {S : Type 0} → Answering S → Asked → OnlyUnit S → OnlyUnit S → Type 0
Did A request old new = (new.unit ≡ old.unit) × ((told : Outcome) × A.gives old.service 0 request told new.service)

-- A broadcast for which memory was wanting at one of the units: those before it did it, and those after it did not.
pub record StoppedAtUnit {S : Type 0} (A : Answering S) (request : Asked) (old new : List (OnlyUnit S)) : Type 0 where
  pub before : List (OnlyUnit S)
  pub did : List (OnlyUnit S)
  pub at : OnlyUnit S
  pub next : S
  pub after : List (OnlyUnit S)
  pub was : old ≡ before ++ at ∷ after
  pub now_is : new ≡ did ++ unit_at at.unit next ∷ after
  pub done : AllZip (Did A request) before did
  pub wants : A.wants at.service 0 request next

-- the service that is first at an address was asked, and no other changed
pub record OneAsked {S : Type 0} (Does : S → S → Type 0) (slave : ℕ) (old new : List (OnlyUnit S)) : Type 0 where
  pub at : FirstAt slave old
  pub next : S
  pub did : Does at.service next
  pub now_is : new ≡ at.before ++ unit_at slave next ∷ at.after

-- the outcome for an address that no unit has
abbrev pub nobody : Option ExceptionCode → Outcome
nobody None = silence
nobody (Some code) = exception code

-- A broadcast is done by each in turn, and nothing is answered. A request for the address of a unit is answered by its service. For any
-- other address there is the outcome that was set, and nothing changes.
abbrev pub units_give : {S : Type 0} → Answering S → LineUnits S → ℕ → Asked → Outcome → LineUnits S → Type 0
units_give A old slave request outcome new =
    (new.absent ≡ old.absent)
    × ((slave ≡ 0) × (outcome ≡ silence) × AllZip (Did A request) old.units new.units
    ⊎ ((slave ≢ 0) × OneAsked (λ it next. A.gives it slave request outcome next) slave old.units new.units
    ⊎ (slave ≢ 0) × NoneAt slave old.units × (outcome ≡ nobody old.absent) × (new.units ≡ old.units)))

-- Memory is wanting where it is for the service that was asked, or in a broadcast for one of them.
abbrev pub units_want : {S : Type 0} → Answering S → LineUnits S → ℕ → Asked → LineUnits S → Type 0
units_want A old slave request new =
    (new.absent ≡ old.absent)
    × ((slave ≡ 0) × StoppedAtUnit A request old.units new.units
    ⊎ (slave ≢ 0) × OneAsked (λ it next. A.wants it slave request next) slave old.units new.units)

abbrev pub units_answering : {S : Type 0} → Answering S → Answering (LineUnits S)
units_answering A = record { gives = units_give A; wants = units_want A }
