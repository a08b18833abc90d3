-- Units of a line, each with tables of the caller's, and what they tell (MODBUS over Serial Line V1.02, sections 2.1 and 2.2).
use Rattle.std.specs.Prelude.{◌≡◌, ◌≢◌, ◌⊎◌, ℕ, List, ◌∷◌, ◌++◌, All, true, Option, Some, None, Result, Ok, Err}
use Rattle.std.specs.List.{AllZip}
use Rattle.modbus_frame.specs.Meaning.{Asked}
use Rattle.modbus_frame.specs.declared.code.ExceptionCode.{ExceptionCode}
use Rattle.modbus_frame.specs.declared.code.ExceptionCode.TheVariants.{ServerDeviceFailure}
use Rattle.modbus_frame.specs.declared.response.Response.{Response}
use Rattle.modbus_service.specs.Outcome.{Outcome, silence, reply, exception}
use Rattle.modbus_store.specs.Tables.{Tables}
use Rattle.modbus_store.specs.Lent.{tables_of}
use Rattle.modbus_store.specs.Step.{StepsTo, TakesMemory}
use Rattle.modbus_field.specs.declared.standard.answers.Unread.{Unread}
use Rattle.modbus_field.specs.declared.standard.answers.Unread.TheVariants.{Refused, Silent}
use Rattle.modbus_field.specs.Unread.{unread_of}
use Rattle.modbus_c.specs.declared.tables.ModbusTables.{ModbusTables}
use Rattle.modbus_c.specs.declared.tables.ModbusUnit.{ModbusUnit}

-- the tables of a unit, as they are now: a request of slave 0 has its effect, unanswered
abbrev pub tables_in : ModbusTables → Tables
tables_in it = tables_of it.coils.now it.discrete_inputs.now it.holding_registers.now it.input_registers.now true

-- the tables are still the caller's same arrays, and what requests do not write is as it was
abbrev pub SameArrays : ModbusTables → ModbusTables → Type 0
SameArrays old new = (new.coils.ghost_name ≡ old.coils.ghost_name) × (new.holding_registers.ghost_name ≡ old.holding_registers.ghost_name)
    × (new.discrete_inputs ≡ old.discrete_inputs) × (new.input_registers ≡ old.input_registers)

-- What tables tell of a request. What can't be read has the exception of the standard, or no answer, and the tables are as they were; all
-- else is done as a store does it. Where it may take memory, which is refused, they are as they were, and the answer is that the device failed.
abbrev pub TellsUnless : Option Unread → Tables → ℕ → Asked → Outcome → Tables → Type 0
TellsUnless (Some (Refused code)) old slave request outcome new = (outcome ≡ exception code) × (new ≡ old)
TellsUnless (Some Silent) old slave request outcome new = (outcome ≡ silence) × (new ≡ old)
TellsUnless None old slave request outcome new =
    StepsTo old slave request outcome new ⊎ ((outcome ≡ exception ServerDeviceFailure) × TakesMemory old slave request × (new ≡ old))

abbrev pub Tells : Tables → ℕ → Asked → Outcome → Tables → Type 0
Tells old slave request outcome new = TellsUnless (unread_of request) old slave request outcome new

-- what is answered, as an outcome
abbrev pub outcome_of : Result (Option Response) ExceptionCode → Outcome
outcome_of (Ok None) = silence
outcome_of (Ok (Some response)) = reply response
outcome_of (Err code) = exception code

-- tables of the caller's were asked: they are in the same arrays
abbrev pub TablesTell : ℕ → Asked → Outcome → ModbusTables → ModbusTables → Type 0
TablesTell slave request outcome old new = SameArrays old new × Tells (tables_in old) slave request outcome (tables_in new)

-- a unit was asked: its address is the same
abbrev pub UnitTells : ℕ → Asked → Outcome → ModbusUnit → ModbusUnit → Type 0
UnitTells slave request outcome old new = (new.unit ≡ old.unit) × TablesTell slave request outcome old.tables new.tables

-- units of a kind: the address of one, and of a slave address, a request, an outcome and the next state, whether it may tell this outcome
pub record Units (U : Type 0) : Type 1 where
  pub address : U → ℕ
  pub tells : ℕ → Asked → Outcome → U → U → Type 0

abbrev pub plain_units : Units ModbusUnit
plain_units = record { address = λ it. it.unit; tells = UnitTells }

-- a unit did what all are asked, whatever it told
abbrev pub HearsAll : {U : Type 0} → Units U → Asked → U → U → Type 0
HearsAll V request old new = (told : Outcome) × V.tells 0 request told old new

-- none of these units has the address
abbrev pub NoneHas : {U : Type 0} → Units U → ℕ → List U → Type 0
NoneHas V slave units = All (λ it. V.address it ≢ slave) units

-- the first unit of an address was asked, and no other changed
pub record FirstTells {U : Type 0} (V : Units U) (slave : ℕ) (request : Asked) (outcome : Outcome) (old new : List U) : Type 0 where
  pub before : List U
  pub at : U
  pub next : U
  pub after : List U
  pub none_before : NoneHas V slave before
  pub here : V.address at ≡ slave
  pub told : V.tells slave request outcome at next
  pub was : old ≡ before ++ at ∷ after
  pub now_is : new ≡ before ++ next ∷ after

-- What the units of a line tell of a request: each does that of slave 0, and nothing is answered; that of a unit's address is answered by it;
-- that of another address by nobody, and nothing changes.
abbrev pub UnitsTell : {U : Type 0} → Units U → ℕ → Asked → Outcome → List U → List U → Type 0
UnitsTell V slave request outcome old new =
    ((slave ≡ 0) × (outcome ≡ silence) × AllZip (HearsAll V request) old new)
    ⊎ ((slave ≢ 0) × FirstTells V slave request outcome old new)
    ⊎ ((slave ≢ 0) × NoneHas V slave old × (outcome ≡ silence) × (new ≡ old))
