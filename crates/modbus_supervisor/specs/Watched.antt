-- What is told of a point after one poll.
use Rattle.std.specs.Prelude.{◌≡◌, ◌≢◌, ℕ, List, [], ◌∷◌, ◌++◌, Option, Some, None, Result, Ok, Err}
use Rattle.modbus_frame.specs.declared.code.ExceptionCode.{ExceptionCode}
use Rattle.modbus_map.specs.declared.given.Given.{Given}
use Rattle.modbus_map.specs.declared.point.Point.{Point}
use Rattle.modbus_map.specs.declared.tables.Tables.{Tables}
use Rattle.modbus_map.specs.declared.value.PointValue.{PointValue}
use Rattle.modbus_lines.specs.declared.reading.Reading.{Reading}
use Rattle.modbus_lines.specs.Readings.{IsTextOfFound, found_in}
use Rattle.modbus_lines.specs.Rows.{name_of}
use Rattle.modbus_supervisor.specs.declared.lines.Stamp.{Stamp}
use Rattle.modbus_supervisor.specs.declared.watched.WatchedPoint.{WatchedPoint}
use Rattle.modbus_supervisor.specs.Lines.{format_of, value_line, exception_line}

-- what is found of a point: nothing, a value, or the exception of the device
abbrev pub Finding : Type 0
Finding = Option (Result PointValue ExceptionCode)

-- the line of a reading of just this point, with what was found and a text of that
pub record IsValueLine (stamp : Stamp) (point : Point) (found : Finding) (line : List ℕ) : Type 0 where
  pub reading : Reading
  pub of_point : reading.point.now ≡ point
  pub of_found : reading.found ≡ found
  pub text : IsTextOfFound (format_of stamp.output) found reading.text
  pub is : line ≡ value_line stamp reading

-- the line of what is found of a point: a value, or an exception; none of nothing
abbrev pub IsFoundLine : Stamp → Point → Finding → List ℕ → Type 0
IsFoundLine stamp point None line = line ≡ []
IsFoundLine stamp point (Some (Ok value)) line = IsValueLine stamp point (Some (Ok value)) line
IsFoundLine stamp point (Some (Err code)) line = line ≡ exception_line stamp (name_of point) code

-- What is told of a point: nothing, where nothing is found or what was seen last, and it stays as it is; else the line of what is found, which
-- is kept.
pub data TellsPoint (stamp : Stamp) (old : WatchedPoint) (found : Finding) (line : List ℕ) (new : WatchedPoint) : Type 0 where
  nothing_found : found ≡ None → line ≡ [] → new ≡ old → TellsPoint stamp old found line new
  seen_before : found ≡ old.seen → line ≡ [] → new ≡ old → TellsPoint stamp old found line new
  changes : found ≢ None → found ≢ old.seen → IsFoundLine stamp old.point found line → new ≡ record old { seen = found } → TellsPoint stamp old found line new

-- each of these becomes what stands at its place there, by what it tells, one after another: all that is told
abbrev pub TellsEach : {X : Type 0} → (X → List ℕ → X → Type 0) → List X → List ℕ → List X → Type 0
TellsEach R [] lines [] = lines ≡ []
TellsEach R [] lines (new ∷ news) = ⊥
TellsEach R (old ∷ olds) lines [] = ⊥
TellsEach R (old ∷ olds) lines (new ∷ news) =
    (line : List ℕ) × (rest : List ℕ) × R old line new × TellsEach R olds rest news × (lines ≡ line ++ rest)

-- what is told of a point by what the reads of its own table give of it
abbrev pub TellsGiven : Stamp → Tables (List Given) → WatchedPoint → List ℕ → WatchedPoint → Type 0
TellsGiven stamp given old line new = TellsPoint stamp old (found_in given old.point) line new

-- what is told of the points of a device, in their order
abbrev pub TellsAll : Stamp → Tables (List Given) → List WatchedPoint → List ℕ → List WatchedPoint → Type 0
TellsAll stamp given olds lines news = TellsEach (TellsGiven stamp given) olds lines news
