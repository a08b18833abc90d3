-- The lines that the program prints, each of one device at one time: objects of JSON (RFC 8259), or lines of InfluxDB's line protocol.
use Rattle.std.specs.Prelude.{ℕ, List}
use Rattle.modbus_frame.specs.declared.code.ExceptionCode.{ExceptionCode}
use Rattle.modbus_frame.specs.Codes.{exception_number}
use Rattle.modbus_lines.specs.declared.reading.Format.{Format}
use Rattle.modbus_lines.specs.declared.reading.Format.TheVariants as format
use Rattle.modbus_lines.specs.declared.reading.Reading.{Reading}
use Rattle.modbus_lines.specs.Told as told
use Rattle.modbus_supervisor.specs.declared.lines.Output.{Output}
use Rattle.modbus_supervisor.specs.declared.lines.Output.TheVariants.{Json, Influx}
use Rattle.modbus_supervisor.specs.declared.lines.Stamp.{Stamp}

-- the format of the texts of values
abbrev pub format_of : Output → Format
format_of (Json large) = format.Json
format_of Influx = format.Influx

-- a point has this value
abbrev pub value_line : Stamp → Reading → List ℕ
value_line stamp reading = elim stamp.output [
  | Json large ↦ told.point_json large stamp.time.now stamp.device.now reading
  | Influx ↦ told.point_influx stamp.nanos stamp.device.now reading
]

-- the device answers the read of a point of this name with this exception
abbrev pub exception_line : Stamp → List ℕ → ExceptionCode → List ℕ
exception_line stamp name code = elim stamp.output [
  | Json large ↦ told.exception_json stamp.time.now stamp.device.now name (exception_number code)
  | Influx ↦ told.exception_influx stamp.nanos stamp.device.now name (exception_number code)
]

-- the device is away, and why; it is back
abbrev pub away_line : Stamp → List ℕ → List ℕ
away_line stamp why = elim stamp.output [
  | Json large ↦ told.away_json stamp.time.now stamp.device.now why
  | Influx ↦ told.away_influx stamp.nanos stamp.device.now why
]

abbrev pub back_line : Stamp → List ℕ
back_line stamp = elim stamp.output [
  | Json large ↦ told.back_json stamp.time.now stamp.device.now
  | Influx ↦ told.back_influx stamp.nanos stamp.device.now
]
