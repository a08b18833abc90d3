-- The points of a device in a poll, and the text of each.
use Rattle.std.specs.Prelude.{◌≡◌, ◌⊎◌, ℕ, List, map, All, Option, Some, None, Result, Ok, Err, String, string_bytes}
use Rattle.std.specs.declared.alloc.Global.{Global}
use Rattle.modbus_frame.specs.Meaning.{Asked}
use Rattle.modbus_frame.specs.declared.code.ExceptionCode.{ExceptionCode}
use Rattle.modbus_client.specs.Matches.{Answer}
use Rattle.modbus_poll.specs.declared.polling.PollError.TheVariants.{NoMemory}
use Rattle.modbus_map.specs.declared.gathering.TableError.{TableError}
use Rattle.modbus_map.specs.declared.given.Given.{Given}
use Rattle.modbus_map.specs.declared.kind.Table.TheVariants.{HoldingRegisters}
use Rattle.modbus_map.specs.declared.point.Point.{Point}
use Rattle.modbus_map.specs.declared.tables.Tables.{Tables}
use Rattle.modbus_map.specs.declared.value.PointValue.{PointValue}
use Rattle.modbus_map.specs.Gathering.{of_table, seen_by, value_among, Answering, GathersAll, StopsIn}
use Rattle.modbus_map.specs.Text.{IsTextOf, IsJsonOf}
use Rattle.modbus_lines.specs.declared.reading.Format.{Format}
use Rattle.modbus_lines.specs.declared.reading.Format.TheVariants.{Table, Csv, Json, Influx}
use Rattle.modbus_lines.specs.declared.reading.Reading.{Reading}
use Rattle.modbus_lines.specs.declared.reading.Polled.{Polled}
use Rattle.modbus_lines.specs.declared.points.Points.{Points}

-- what the reads of its table give of a point
abbrev pub found_in : Tables (List Given) → Point → Option (Result PointValue ExceptionCode)
found_in given point = value_among (of_table given point.table) point

-- the text of a value in a format
abbrev pub IsTextIn : Format → PointValue → List ℕ → Type 0
IsTextIn Table value text = IsTextOf value text
IsTextIn Csv value text = IsTextOf value text
IsTextIn Json value text = IsJsonOf value text
IsTextIn Influx value text = IsTextOf value text

-- a text for a value, and none where there is no value
abbrev pub IsTextOfFound : Format → Option (Result PointValue ExceptionCode) → Option (String Global) → Type 0
IsTextOfFound format (Some (Ok value)) (Some text) = IsTextIn format value (string_bytes text)
IsTextOfFound format (Some (Ok value)) None = ⊥
IsTextOfFound format (Some (Err code)) text = text ≡ None
IsTextOfFound format None text = text ≡ None

-- the points in their order, what the reads of its table give of each, and the text of that
pub record AreReadings (format : Format) (given : Tables (List Given)) (points : List Point) (readings : List Reading) : Type 0 where
  pub points_are : map (λ (reading : Reading). reading.point.now) readings ≡ points
  pub found_are : map (λ (reading : Reading). reading.found) readings ≡ map (found_in given) points
  pub texts : All (λ (reading : Reading). IsTextOfFound format reading.found reading.text) readings

-- The reads of a device were made, each once, and gave its points so.
pub record Polls {S : Type 0} (answers : S → Asked → Answer → S → Type 0) (old : S) (points : Points) (format : Format) (polled : Polled) (new : S) : Type 0 where
  pub gathered : GathersAll answers old points.plans (seen_by (λ v. v.items) polled.given) new
  pub readings : AreReadings format (seen_by (λ v. v.items) polled.given) points.points.items polled.readings.items

-- The reads of a device were all made, each once, and then there was no memory for the texts of its points. That is told of the last table.
pub record LosesTexts {S : Type 0} (answers : Answering S) (old : S) (points : Points) (stop : TableError) (new : S) : Type 0 where
  pub found : Tables (List Given)
  pub gathered : GathersAll answers old points.plans found new
  pub told : stop ≡ record { table = HoldingRegisters; error = NoMemory }

-- why a poll has no values: its reads stopped so, or they were all made, and there was no memory for the texts
abbrev pub IsWhyNoPoll : {S : Type 0} → Answering S → S → Points → TableError → S → Type 0
IsWhyNoPoll answers old points stop new =
    StopsIn answers old points.plans stop new ⊎ LosesTexts answers old points stop new
