-- The unit that a request of Modbus TCP is for (MODBUS Messaging on TCP/IP V1.0b, section 4.4.1.2).
use Rattle.std.specs.Prelude.{◌≡◌, ℕ, ◌==◌, ◌&&◌, ◌||◌, not, Bool, if◌then◌else◌, List}
use Rattle.modbus_frame.specs.Meaning.{Asked}
use Rattle.modbus_service.specs.Answering.{Answering}
use Rattle.modbus_service.specs.Exchange.{Exchange, Run}
use Rattle.modbus_service.specs.Outcome.{Outcome}
use Rattle.modbus_field.specs.declared.stream.default_unit.DefaultUnit.{DefaultUnit}

-- whether a unit identifier is that of the device itself: 255, the non-significant value, and 0 where it is no broadcast
abbrev pub is_for_device : Bool → ℕ → Bool
is_for_device zero_is_broadcast unit = unit == 255 || (unit == 0 && not zero_is_broadcast)

-- the unit that is asked
abbrev pub unit_asked : {S : Type 0} → DefaultUnit S → ℕ → ℕ
unit_asked it unit = if is_for_device it.zero_is_broadcast unit then it.unit else unit

-- the default unit stays, and what is for all or for the device itself still is
abbrev pub SameDefault : {S : Type 0} → DefaultUnit S → DefaultUnit S → Type 0
SameDefault old new = (new.unit ≡ old.unit) × (new.zero_is_broadcast ≡ old.zero_is_broadcast)

abbrev pub default_unit_gives : {S : Type 0} → Answering S → DefaultUnit S → ℕ → Asked → Outcome → DefaultUnit S → Type 0
default_unit_gives A old unit request outcome new =
    SameDefault old new × A.gives old.service (unit_asked old unit) request outcome new.service

abbrev pub default_unit_wants : {S : Type 0} → Answering S → DefaultUnit S → ℕ → Asked → DefaultUnit S → Type 0
default_unit_wants A old unit request new =
    SameDefault old new × A.wants old.service (unit_asked old unit) request new.service

-- What lies below is asked the same request, for the unit that is asked.
abbrev pub default_unit : {S : Type 0} → Answering S → Answering (DefaultUnit S)
default_unit A = record { gives = default_unit_gives A; wants = default_unit_wants A }

-- a run of it is a run of what lies below over the same exchanges, for the units that are asked
abbrev pub DefaultUnitRuns : (Header : Type 0) → {S : Type 0} → Answering S → Type 0
DefaultUnitRuns Header {S} A =
    (unit : Header → ℕ) (start last : DefaultUnit S) (xs : List (Exchange Header))
    → Run unit (default_unit A) start xs last
    → SameDefault start last × Run (λ header. unit_asked start (unit header)) A start.service xs last.service

-- and each run of what lies below for these units is one of it
abbrev pub ComesOfBelow : (Header : Type 0) → {S : Type 0} → Answering S → Type 0
ComesOfBelow Header {S} A =
    (unit : Header → ℕ) (start : DefaultUnit S) (last : S) (xs : List (Exchange Header))
    → Run (λ header. unit_asked start (unit header)) A start.service xs last
    → Run unit (default_unit A) start xs (record start { service = last })
