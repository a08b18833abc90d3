-- Lines of JSON (RFC 8259).
use Rattle.std.specs.Prelude.{ℕ, ◌^◌, nat_lt, Bool, false, if◌then◌else◌, List, [], ◌∷◌, ◌++◌, flat_map, codes, unsigned_abs, Option, Some, Result, Ok}
use Rattle.json.specs.Print.{quoted}
use Rattle.modbus_frame.specs.declared.code.ExceptionCode.{ExceptionCode}
use Rattle.modbus_map.specs.declared.value.PointValue.{PointValue}
use Rattle.modbus_map.specs.declared.value.PointValue.TheVariants.{Number}
use Rattle.modbus_lines.specs.declared.reading.Reading.{Reading}
use Rattle.modbus_lines.specs.declared.json_lines.LargeNumbers.{LargeNumbers}
use Rattle.modbus_lines.specs.declared.json_lines.LargeNumbers.TheVariants.{AsNumbers, AsTexts}
use Rattle.modbus_lines.specs.Rows.{name_of}
use Rattle.modbus_lines.specs.CsvLines.{text_or}

-- An exact number of more units of its last place than 2^53, of either sign: more than a float of 64 bits, as which most readers of JSON hold
-- a number, can count. A float of the device is as exact in its reader.
abbrev pub is_large_value : PointValue → Bool
is_large_value (Number number) = nat_lt (2 ^ 53) (unsigned_abs number.units)
is_large_value _ = false

abbrev pub is_large : Option (Result PointValue ExceptionCode) → Bool
is_large (Some (Ok value)) = is_large_value value
is_large _ = false

-- such a number is told as a text where that was asked for
abbrev pub is_told_as_text : LargeNumbers → Option (Result PointValue ExceptionCode) → Bool
is_told_as_text AsNumbers found = false
is_told_as_text AsTexts found = is_large found

-- the text of a value, `null` where there is none
abbrev pub json_text : Reading → List ℕ
json_text reading = text_or (codes "null") reading.text

-- a value: its text, in quotation marks where it is to be a text
abbrev pub json_value : LargeNumbers → Reading → List ℕ
json_value large reading = if is_told_as_text large reading.found then 34 ∷ json_text reading ++ 34 ∷ [] else json_text reading

-- a name in quotation marks, a colon and the value
abbrev pub json_member : LargeNumbers → Reading → List ℕ
json_member large reading = quoted (name_of reading.point.now) ++ 58 ∷ json_value large reading

-- a member for each, behind a comma
abbrev pub json_others : LargeNumbers → List Reading → List ℕ
json_others large readings = flat_map (λ (reading : Reading). 44 ∷ json_member large reading) readings

-- a member for each, with a comma between two
abbrev pub json_members : LargeNumbers → List Reading → List ℕ
json_members large [] = []
json_members large (first ∷ others) = json_member large first ++ json_others large others

-- an object on a line
abbrev pub json_line : LargeNumbers → List Reading → List ℕ
json_line large readings = 123 ∷ json_members large readings ++ 125 ∷ 10 ∷ []

-- what stands before the points of a device: the time and the device
abbrev pub json_head : List ℕ → List ℕ → List ℕ
json_head time device = codes "{\"time\":" ++ quoted time ++ codes ",\"device\":" ++ quoted device ++ codes ",\"points\":{"

-- an object on a line, with the points in an object of their own
abbrev pub device_json : LargeNumbers → List ℕ → List ℕ → List Reading → List ℕ
device_json large time device readings = json_head time device ++ json_members large readings ++ codes "}}\n"
