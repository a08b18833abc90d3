-- The rows of a table.
use Rattle.std.specs.Prelude.{ℕ, ◌-◌, ◌==◌, if◌then◌else◌, List, [], ◌∷◌, ◌++◌, length, replicate, flat_map, Option, Some, None, String, string_bytes}
use Rattle.std.specs.declared.alloc.Global.{Global}
use Rattle.modbus_map.specs.declared.point.Point.{Point}
use Rattle.modbus_lines.specs.declared.reading.Reading.{Reading}

-- the column behind which a value stands, after a space
abbrev pub columns : ℕ
columns = 15

abbrev pub name_of : Point → List ℕ
name_of point = string_bytes point.name

-- a space and the unit of measure; nothing where there is none
abbrev pub unit_text : Point → List ℕ
unit_text point = if length (string_bytes point.unit) == 0 then [] else 32 ∷ string_bytes point.unit

-- a name, spaces up to that column and one more, the value, its unit and a line feed; nothing for a point without a value
abbrev pub row_with : List ℕ → Point → Option (String Global) → List ℕ
row_with name point None = []
row_with name point (Some text) = name ++ replicate (columns - length name) 32 ++ 32 ∷ string_bytes text ++ unit_text point ++ 10 ∷ []

-- the row of a point under a name
abbrev pub row_of : List ℕ → Reading → List ℕ
row_of name reading = row_with name reading.point.now reading.text

-- the row of a point under its own name
abbrev pub table_row : Reading → List ℕ
table_row reading = row_of (name_of reading.point.now) reading

-- a row for each
abbrev pub table_lines : List Reading → List ℕ
table_lines readings = flat_map table_row readings

-- the name of a point behind that of its device and a full stop
abbrev pub device_point : List ℕ → Point → List ℕ
device_point device point = device ++ 46 ∷ name_of point

-- the row of a point of a device
abbrev pub device_row : List ℕ → Reading → List ℕ
device_row device reading = row_of (device_point device reading.point.now) reading

-- a row for each
abbrev pub device_rows : List ℕ → List Reading → List ℕ
device_rows device readings = flat_map (device_row device) readings
