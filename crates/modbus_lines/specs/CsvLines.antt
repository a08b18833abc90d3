-- Lines of CSV (RFC 4180, section 2).
use Rattle.std.specs.Prelude.{ℕ, List, [], ◌∷◌, map, flat_map, codes, Option, Some, None, String, string_bytes}
use Rattle.std.specs.declared.alloc.Global.{Global}
use Rattle.csv.specs.Writing.{default_writer, row_text}
use Rattle.modbus_map.specs.declared.point.Point.{Point}
use Rattle.modbus_lines.specs.declared.reading.Reading.{Reading}
use Rattle.modbus_lines.specs.Rows.{name_of}

-- the names of the points as a record
abbrev pub csv_header : List Point → List ℕ
csv_header points = row_text default_writer (map name_of points)

-- a text, and another where there is none
abbrev pub text_or : List ℕ → Option (String Global) → List ℕ
text_or other None = other
text_or other (Some text) = string_bytes text

-- the text of a value, empty where there is none
abbrev pub csv_field : Reading → List ℕ
csv_field reading = text_or [] reading.text

-- the values as a record
abbrev pub csv_line : List Reading → List ℕ
csv_line readings = row_text default_writer (map csv_field readings)

-- the names of the columns for the values of many devices
abbrev pub device_csv_header : List ℕ
device_csv_header = codes "time,device,point,value,unit\n"

-- the time, the device, the point, its value and its unit
abbrev pub csv_record : List ℕ → List ℕ → Point → List ℕ → List (List ℕ)
csv_record time device point value = time ∷ device ∷ name_of point ∷ value ∷ string_bytes point.unit ∷ []

-- the record of a value; nothing where there is none
abbrev pub record_with : List ℕ → List ℕ → Point → Option (String Global) → List ℕ
record_with time device point None = []
record_with time device point (Some text) = row_text default_writer (csv_record time device point (string_bytes text))

abbrev pub device_csv_record : List ℕ → List ℕ → Reading → List ℕ
device_csv_record time device reading = record_with time device reading.point.now reading.text

-- a record for each point that has a value
abbrev pub device_csv : List ℕ → List ℕ → List Reading → List ℕ
device_csv time device readings = flat_map (device_csv_record time device) readings
