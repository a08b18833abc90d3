-- What is told of a device at one time: a point that has another value, or whose read has an exception; that it is away, and that it is back. In
-- JSON (RFC 8259) and in the line protocol of InfluxDB.
use Rattle.std.specs.Prelude.{ℕ, List, [], ◌∷◌, ◌++◌, codes, decimal, ℤ, string_bytes}
use Rattle.json.specs.Print.{quoted}
use Rattle.modbus_map.specs.declared.point.Point.{Point}
use Rattle.modbus_lines.specs.declared.reading.Reading.{Reading}
use Rattle.modbus_lines.specs.declared.json_lines.LargeNumbers.{LargeNumbers}
use Rattle.modbus_lines.specs.Rows.{name_of}
use Rattle.modbus_lines.specs.JsonLines.{json_value}
use Rattle.modbus_lines.specs.Influx.{influx_name, quoted_text, influx_field, influx_tail, line_or_none}

-- what each object begins with: the time and the device
abbrev pub told_head : List ℕ → List ℕ → List ℕ
told_head time device = codes "{\"time\":" ++ quoted time ++ codes ",\"device\":" ++ quoted device

-- and that of a point with its name
abbrev pub point_head : List ℕ → List ℕ → List ℕ → List ℕ
point_head time device name = told_head time device ++ codes ",\"point\":" ++ quoted name

-- the unit of a point, which is empty where it has none, and the end of the object
abbrev pub unit_end : Point → List ℕ
unit_end point = codes ",\"unit\":" ++ quoted (string_bytes point.unit) ++ codes "}\n"

-- a point has this value
abbrev pub point_json : LargeNumbers → List ℕ → List ℕ → Reading → List ℕ
point_json large time device reading =
    point_head time device (name_of reading.point.now) ++ codes ",\"value\":" ++ json_value large reading ++ unit_end reading.point.now

-- the read of a point is answered with the exception of this number
abbrev pub exception_json : List ℕ → List ℕ → List ℕ → ℕ → List ℕ
exception_json time device name number = point_head time device name ++ codes ",\"exception\":" ++ decimal number ++ codes "}\n"

-- a device is away, and why; it is back
abbrev pub away_json : List ℕ → List ℕ → List ℕ → List ℕ
away_json time device why = told_head time device ++ codes ",\"away\":true,\"why\":" ++ quoted why ++ codes "}\n"

abbrev pub back_json : List ℕ → List ℕ → List ℕ
back_json time device = told_head time device ++ codes ",\"away\":false}\n"

-- a point has this value: a line with its field alone; nothing for a value that the protocol has not
abbrev pub point_influx : ℤ → List ℕ → Reading → List ℕ
point_influx nanos device reading = line_or_none nanos device (influx_field reading)

-- what a line begins with that tells no value: another measurement, and the device as its tag
abbrev pub state_head : List ℕ → List ℕ
state_head device = codes "modbus_state,device=" ++ influx_name device

-- the point is a tag, the number of the exception an integer
abbrev pub exception_influx : ℤ → List ℕ → List ℕ → ℕ → List ℕ
exception_influx nanos device name number =
    state_head device ++ codes ",point=" ++ influx_name name ++ codes " exception=" ++ decimal number ++ codes "i" ++ influx_tail nanos

-- a device is away, and why; it is back
abbrev pub away_influx : ℤ → List ℕ → List ℕ → List ℕ
away_influx nanos device why = state_head device ++ codes " away=true,why=" ++ quoted_text why ++ influx_tail nanos

abbrev pub back_influx : ℤ → List ℕ → List ℕ
back_influx nanos device = state_head device ++ codes " away=false" ++ influx_tail nanos
