-- The readings of a clock, in nanoseconds.
use Rattle.std.specs.Prelude.{ℕ, Option}
use Rattle.std.specs.Option.{option_map}
use Rattle.std.specs.Time.{instant_nanos}
use Rattle.modbus_link.specs.declared.reading.Reading.{Reading}
use Rattle.modbus_link.specs.declared.timed.Readings as clock
use Rattle.modbus_link.specs.Terminal.{Readings}

abbrev pub reading_of : Reading → Option ℕ
reading_of it = option_map instant_nanos it.at

abbrev pub readings_of : clock.Readings → Readings
readings_of it = record { before = reading_of it.before; after = reading_of it.after }
