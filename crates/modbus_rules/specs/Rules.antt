-- Which requests are allowed (MODBUS over Serial Line V1.02, section 2.2; Application Protocol V1.1b3, section 7).
use Rattle.std.specs.Prelude.{ℕ, ◌+◌, ◌==◌, nat_le, List, [], ◌∷◌, length, Bool, true, false, ◌&&◌, ◌||◌, Option, Some, None, if◌then◌else◌}
use Rattle.modbus_frame.specs.Meaning.{Asked, WriteSingleCoil, WriteMultipleCoils, WriteSingleRegister, WriteMultipleRegisters, MaskWriteRegister, ReadWriteMultipleRegisters, only_reads}
use Rattle.modbus_frame.specs.declared.code.ExceptionCode.{ExceptionCode}
use Rattle.modbus_frame.specs.declared.code.ExceptionCode.TheVariants.{IllegalFunction, IllegalDataAddress, GatewayPathUnavailable}
use Rattle.modbus_rules.specs.declared.rules.UnitSpan.{UnitSpan}
use Rattle.modbus_rules.specs.declared.rules.WriteSpan.{WriteSpan}

-- a number from a first to a last, both among them
abbrev pub is_between : ℕ → ℕ → ℕ → Bool
is_between first last n = nat_le first n && nat_le n last

-- the unit is one of these
abbrev pub is_among : List UnitSpan → ℕ → Bool
is_among [] unit = false
is_among (span ∷ spans) unit = is_between span.first span.last unit || is_among spans unit

-- what a request writes: the first address, and how many registers or coils
pub record Extent : Type 0 where
  pub first : ℕ
  pub count : ℕ

-- what a request writes, where its kind tells that
abbrev pub written : Asked → Option Extent
written (WriteSingleCoil address coil) = Some (record { first = address; count = 1 })
written (WriteMultipleCoils address coils) = Some (record { first = address; count = length coils })
written (WriteSingleRegister address word) = Some (record { first = address; count = 1 })
written (WriteMultipleRegisters address words) = Some (record { first = address; count = length words })
written (MaskWriteRegister address and_mask or_mask) = Some (record { first = address; count = 1 })
written (ReadWriteMultipleRegisters read_address quantity write_address words) = Some (record { first = write_address; count = length words })
written _ = None

-- all that is written at this unit lies within the span
abbrev pub covers : WriteSpan → ℕ → Extent → Bool
covers span unit at = is_between span.units.first span.units.last unit && (nat_le span.first at.first && nat_le (at.first + at.count) (span.last + 1))

abbrev pub is_covered : List WriteSpan → ℕ → Extent → Bool
is_covered [] unit at = false
is_covered (span ∷ spans) unit at = covers span unit at || is_covered spans unit at

-- what masters may do: which units they may ask, where not each, and what they may write
pub record RulesState : Type 0 where
  pub units : Option (List UnitSpan)
  pub writes : Option (List WriteSpan)

-- each request is allowed
abbrev pub no_rules : RulesState
no_rules = record { units = None; writes = None }

-- each unit may be asked, and nothing written
abbrev pub nothing_written : RulesState
nothing_written = record { units = None; writes = Some [] }

-- the unit may be asked
abbrev pub may_ask : Option (List UnitSpan) → ℕ → Bool
may_ask None unit = true
may_ask (Some spans) unit = is_among spans unit

-- why a request that may change something is refused, where only these spans may be written: a kind that doesn't tell what it writes is a
-- function that is not allowed, and so is each where nothing may be written
abbrev pub write_refusal : List WriteSpan → ℕ → Option Extent → Option ExceptionCode
write_refusal [] unit at = Some IllegalFunction
write_refusal (span ∷ spans) unit None = Some IllegalFunction
write_refusal (span ∷ spans) unit (Some at) = if is_covered (span ∷ spans) unit at then None else Some IllegalDataAddress

abbrev pub writes_refusal : Option (List WriteSpan) → ℕ → Asked → Option ExceptionCode
writes_refusal None unit request = None
writes_refusal (Some spans) unit request = if only_reads request then None else write_refusal spans unit (written request)

-- Why rules refuse a request.
abbrev pub rules_refusal : RulesState → ℕ → Asked → Option ExceptionCode
rules_refusal rules unit request = if may_ask rules.units unit then writes_refusal rules.writes unit request else Some IllegalFunction

-- Why a request for the slaves of a line is refused; nothing where it is allowed. No slave has an address from 248 on, and none answers a broadcast, so nothing can be
-- read by one. Unit 0 is asked where it is among the units, and all slaves of the line do what a request for it asks.
abbrev pub refusal : RulesState → ℕ → Asked → Option ExceptionCode
refusal rules unit request =
    if nat_le 248 unit then Some GatewayPathUnavailable
    else if unit == 0 && only_reads request then Some IllegalFunction
    else rules_refusal rules unit request
