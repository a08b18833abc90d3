-- Writes of points (Modbus Application Protocol V1.1b3, sections 6.5, 6.6 and 6.12).
use Rattle.std.specs.Prelude.{◌≡◌, ℕ, ◌⊎◌, nat_lt, Bool, true, false, List, [], ◌∷◌, length, slice_index_or, Result, Ok, Err}
use Rattle.modbus_frame.specs.Meaning.{Asked, WriteSingleCoil, WriteSingleRegister, WriteMultipleRegisters}
use Rattle.modbus_client.specs.Matches.{Answer}
use Rattle.modbus_client.specs.Typed.{AnswerOf, Asks, coil_written, register_written, registers_written}
use Rattle.modbus_map.specs.declared.kind.Table.{Table}
use Rattle.modbus_map.specs.declared.kind.Table.TheVariants.{Coils, DiscreteInputs, InputRegisters, HoldingRegisters}
use Rattle.modbus_map.specs.declared.point.Point.{Point}
use Rattle.modbus_map.specs.declared.write_error.WriteError.{WriteError}
use Rattle.modbus_map.specs.declared.write_error.WriteError.TheVariants.{NotOfKind}
use Rattle.modbus_map.specs.Points.{may_write, AreWordsOfText, IsRefusal}
use Rattle.modbus_map.specs.Sound.{fits}
use Rattle.modbus_plant.specs.declared.point_error.PointWriteError.{PointWriteError}
use Rattle.modbus_plant.specs.declared.point_error.PointWriteError.TheVariants.{Refused, Call, Exception}

-- the state that the words of a coil stand for: on where the first is not 0
abbrev pub is_on : List ℕ → Bool
is_on words = nat_lt 0 (slice_index_or words 0 0)

-- these words are to be written at a point for a text: it may be written, its kind lies in its table, and they stand for the text's value
abbrev pub AreToBeWritten : Point → List ℕ → List ℕ → Type 0
AreToBeWritten point text words =
    (may_write point ≡ true) × (fits point.table point.encoding.kind ≡ true) × AreWordsOfText point text words

-- a text is not written at a point: the kind does not lie in the table, or the map or the text has a cause
abbrev pub IsNotWritten : Point → List ℕ → WriteError → Type 0
IsNotWritten point text error =
    ((error ≡ NotOfKind) × (fits point.table point.encoding.kind ≡ false)) ⊎ IsRefusal point text error

-- One request wrote words from an address on, and was answered so: 05 for a coil, 06 for one holding register, 10 (hexadecimal) for any
-- other number of them. No other table can be written.
abbrev pub AsksWrite : {S : Type 0} → (S → Asked → Answer → S → Type 0) → S → Table → ℕ → List ℕ → AnswerOf (Unit {0}) → S → Type 0
AsksWrite answers old Coils address words answer new =
    Asks answers old (WriteSingleCoil address (is_on words)) (coil_written address (is_on words)) answer new
AsksWrite answers old HoldingRegisters address (word ∷ []) answer new =
    Asks answers old (WriteSingleRegister address word) (register_written address word) answer new
AsksWrite answers old HoldingRegisters address words answer new =
    Asks answers old (WriteMultipleRegisters address words) (registers_written address (length words)) answer new
AsksWrite answers old _ address words answer new = ⊥

-- what is told of an answer to a write
abbrev pub Tells : AnswerOf (Unit {0}) → Result (Unit {0}) PointWriteError → Type 0
Tells answer (Ok done) = answer ≡ Ok (Ok tt)
Tells answer (Err (Refused error)) = ⊥
Tells answer (Err (Call error)) = answer ≡ Err error
Tells answer (Err (Exception code)) = answer ≡ Ok (Err code)

-- The words of a text were written at a point by one request, which was answered so.
pub record Written {S : Type 0} (answers : S → Asked → Answer → S → Type 0) (old : S) (point : Point) (text : List ℕ) (answer : AnswerOf (Unit {0})) (new : S) : Type 0 where
  pub words : List ℕ
  pub stand : AreToBeWritten point text words
  pub asked : AsksWrite answers old point.table point.address words answer new

-- A text was written at a point by one request, which the device confirmed, or which failed so; or it is not to be written there, and the
-- client is as it was.
abbrev pub WritesPoint : {S : Type 0} → (S → Asked → Answer → S → Type 0) → S → Point → List ℕ → Result (Unit {0}) PointWriteError → S → Type 0
WritesPoint answers old point text (Ok done) new = Written answers old point text (Ok (Ok tt)) new
WritesPoint answers old point text (Err (Refused error)) new = IsNotWritten point text error × (new ≡ old)
WritesPoint answers old point text (Err (Call error)) new = Written answers old point text (Err error) new
WritesPoint answers old point text (Err (Exception code)) new = Written answers old point text (Ok (Err code)) new
