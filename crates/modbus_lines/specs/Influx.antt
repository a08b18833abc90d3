-- Lines of InfluxDB's line protocol (its public reference, "Line protocol"): a measurement, its tags, a space, the fields with a comma between
-- two, a space, and the time in nanoseconds since 1970.
use Rattle.std.specs.Prelude.{ℕ, ◌%◌, ◌^◌, ◌==◌, ◌||◌, nat_lt, Bool, true, false, if◌then◌else◌, List, [], ◌∷◌, ◌++◌, flat_map, codes, ℤ, pos, negsuc, Option, Some, Result, Ok, String, string_bytes}
use Rattle.std.specs.declared.alloc.Global.{Global}
use Rattle.std.specs.Fmt.{signed_decimal}
use Rattle.modbus_frame.specs.declared.code.ExceptionCode.{ExceptionCode}
use Rattle.modbus_map.specs.declared.decimal.Decimal.{Decimal}
use Rattle.modbus_map.specs.declared.point.Point.{Point}
use Rattle.modbus_map.specs.declared.value.PointValue.{PointValue}
use Rattle.modbus_map.specs.declared.value.PointValue.TheVariants.{State, Number, Single, Double, Text}
use Rattle.modbus_map.specs.Text.{state_json}
use Rattle.modbus_lines.specs.declared.reading.Reading.{Reading}
use Rattle.modbus_lines.specs.Rows.{name_of}

-- the bytes that end a name of a tag or a field, or begin an escape: comma, equals sign, space and backslash
abbrev pub ends_name : ℕ → Bool
ends_name byte = (byte == 44) || (byte == 61) || (byte == 32) || (byte == 92)

-- What stands in a name for a byte. A backslash comes before one that would end the name, and before a backslash, which the last of a name would
-- else take the space behind it away. No name of the protocol can have a line feed: a backslash and an `n` stand for it, as Telegraf writes it.
abbrev pub name_byte : ℕ → List ℕ
name_byte byte =
    if byte == 10 then 92 ∷ 110 ∷ [] else
    if ends_name byte then 92 ∷ byte ∷ [] else byte ∷ []

abbrev pub influx_name : List ℕ → List ℕ
influx_name name = flat_map name_byte name

-- what stands in a text for a byte: itself, behind a backslash where it is a quotation mark or a backslash
abbrev pub text_byte : ℕ → List ℕ
text_byte byte = if (byte == 34) || (byte == 92) then 92 ∷ byte ∷ [] else byte ∷ []

abbrev pub escaped_text : List ℕ → List ℕ
escaped_text text = flat_map text_byte text

-- a text in quotation marks
abbrev pub quoted_text : List ℕ → List ℕ
quoted_text text = 34 ∷ escaped_text text ++ 34 ∷ []

-- The protocol has no value for a float that is infinite or no number, which has all bits of its exponent.
abbrev pub is_known : PointValue → Bool
is_known (State state) = true
is_known (Number number) = true
is_known (Single bits) = nat_lt (bits % 2 ^ 31) 0x7F80_0000
is_known (Double bits) = nat_lt (bits % 2 ^ 63) 0x7FF0_0000_0000_0000
is_known (Text bytes) = true

-- The type of an integer: `i` for one that 64 bits hold with a sign, `u` for one that they hold without. A number with neither is a float.
abbrev pub integer_suffix : ℤ → List ℕ
integer_suffix (pos n) = if nat_lt n (2 ^ 63) then codes "i" else if nat_lt n (2 ^ 64) then codes "u" else []
integer_suffix (negsuc n) = if nat_lt n (2 ^ 63) then codes "i" else []

-- only a number without digits behind its point is an integer
abbrev pub number_suffix : Decimal → List ℕ
number_suffix number = if number.places == 0 then integer_suffix number.units else []

-- The value of a field, of which this text is shown: `true` or `false`; the digits of a number, and its type; a float, a plain decimal; a text
-- in quotation marks.
abbrev pub influx_value : PointValue → List ℕ → List ℕ
influx_value (State state) text = state_json state
influx_value (Number number) text = text ++ number_suffix number
influx_value (Single bits) text = text
influx_value (Double bits) text = text
influx_value (Text bytes) text = quoted_text text

-- a field behind a comma: the name, an equals sign and the value; nothing for a value that the protocol has not
abbrev pub known_field : Point → PointValue → List ℕ → List ℕ
known_field point value text = if is_known value then 44 ∷ influx_name (name_of point) ++ 61 ∷ influx_value value text else []

-- nothing for a point without a value
abbrev pub field_with : Point → Option (Result PointValue ExceptionCode) → Option (String Global) → List ℕ
field_with point (Some (Ok value)) (Some text) = known_field point value (string_bytes text)
field_with point _ _ = []

abbrev pub influx_field : Reading → List ℕ
influx_field reading = field_with reading.point.now reading.found reading.text

-- the fields of the points, each behind a comma
abbrev pub influx_fields : List Reading → List ℕ
influx_fields readings = flat_map influx_field readings

-- the measurement, the device as its tag, and a space
abbrev pub influx_head : List ℕ → List ℕ
influx_head device = codes "modbus,device=" ++ influx_name device ++ 32 ∷ []

-- a space, the time in decimal and a line feed
abbrev pub influx_tail : ℤ → List ℕ
influx_tail nanos = 32 ∷ signed_decimal nanos ++ 10 ∷ []

-- a line with these fields, of which no comma stands before the first
abbrev pub line_of : ℤ → List ℕ → List ℕ → List ℕ
line_of nanos device fields = influx_head device ++ fields ++ influx_tail nanos

-- nothing where there is no field
abbrev pub line_or_none : ℤ → List ℕ → List ℕ → List ℕ
line_or_none nanos device [] = []
line_or_none nanos device (comma ∷ fields) = line_of nanos device fields

-- the values of a device at a time
abbrev pub influx_line : ℤ → List ℕ → List Reading → List ℕ
influx_line nanos device readings = line_or_none nanos device (influx_fields readings)
