-- A device with one input register.
use Rattle.std.specs.Prelude.{◌≡◌, ℕ, ◌==◌, ◌&&◌, if◌then◌else◌, [], ◌∷◌}
use Rattle.modbus_frame.specs.Meaning.{Asked}
use Rattle.modbus_frame.specs.Meaning as asked
use Rattle.modbus_frame.specs.declared.code.ExceptionCode.TheVariants.{IllegalDataAddress, IllegalFunction}
use Rattle.modbus_frame.specs.declared.response.Response.TheVariants as response
use Rattle.modbus_service.specs.Outcome.{Outcome, reply, exception}
use Rattle.modbus_example.specs.declared.thermometer.Thermometer.{Thermometer}

-- a read of register 0 alone is answered with the temperature, and any other read of input registers is out of range
abbrev pub reading_outcome : Thermometer → Asked → Outcome
reading_outcome it (asked.ReadInputRegisters address quantity) =
    if address == 0 && quantity == 1 then reply (response.ReadInputRegisters (it.tenths ∷ [])) else exception IllegalDataAddress
reading_outcome it _ = exception IllegalFunction

-- it measures the same for every slave, and stays as it is
abbrev pub MeasuresAs : Thermometer → ℕ → Asked → Outcome → Thermometer → Type 0
MeasuresAs old slave request outcome new = (outcome ≡ reading_outcome old request) × (new ≡ old)
