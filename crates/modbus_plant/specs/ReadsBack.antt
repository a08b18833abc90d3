-- What is read back of a point that was written (Modbus Application Protocol V1.1b3, sections 6.1 and 6.3).
use Rattle.std.specs.Prelude.{◌≡◌, ◌≢◌, ℕ, Bool, false, List, slice_index_or, Result, Ok, Err}
use Rattle.modbus_frame.specs.Meaning.{Asked, ReadCoils, ReadHoldingRegisters}
use Rattle.modbus_client.specs.Matches.{Answer}
use Rattle.modbus_client.specs.Typed.{Asks, coils_read, holding_registers_read}
use Rattle.modbus_map.specs.declared.kind.Table.{Table}
use Rattle.modbus_map.specs.declared.kind.Table.TheVariants.{Coils, HoldingRegisters}
use Rattle.modbus_map.specs.declared.point.Encoding.{Encoding}
use Rattle.modbus_map.specs.declared.point.Point.{Point}
use Rattle.modbus_map.specs.declared.value.PointValue.TheVariants.{State}
use Rattle.modbus_map.specs.Kinds.{width}
use Rattle.modbus_map.specs.Values.{value}
use Rattle.modbus_plant.specs.declared.point_error.PointWriteError.TheVariants as write
use Rattle.modbus_plant.specs.declared.point_error.ReadBackError.{ReadBackError}
use Rattle.modbus_plant.specs.declared.point_error.ReadBackError.TheVariants.{Call, Exception, Differs, NoMemory}
use Rattle.modbus_plant.specs.declared.point_error.VerifiedWriteError.{VerifiedWriteError}
use Rattle.modbus_plant.specs.declared.point_error.VerifiedWriteError.TheVariants as verified
use Rattle.modbus_plant.specs.Writes.{is_on, AreToBeWritten, AsksWrite, WritesPoint}

-- what the state that was read of a coil says of the one that was written: it is the same, or another one, which is told
abbrev pub JudgesState : Bool → Bool → Result (Unit {0}) ReadBackError → Type 0
JudgesState written found (Ok done) = found ≡ written
JudgesState written found (Err (Differs other)) = (found ≢ written) × (other ≡ State found)
JudgesState written found (Err _) = ⊥

-- what the words that were read of registers say of those that were written: they are the same, or others, whose value is told
abbrev pub JudgesWords : Encoding → List ℕ → List ℕ → Result (Unit {0}) ReadBackError → Type 0
JudgesWords encoding written found (Ok done) = found ≡ written
JudgesWords encoding written found (Err (Differs other)) = (found ≢ written) × (other ≡ value encoding found)
JudgesWords encoding written found (Err NoMemory) = found ≢ written
JudgesWords encoding written found (Err _) = ⊥

-- One coil was read once, and answered so. The state of an answer is its first one.
abbrev pub ReadsCoil : {S : Type 0} → (S → Asked → Answer → S → Type 0) → S → ℕ → Bool → Result (Unit {0}) ReadBackError → S → Type 0
ReadsCoil answers old address written (Err (Call error)) new =
    Asks {A = List Bool} answers old (ReadCoils address 1) (coils_read 1) (Err error) new
ReadsCoil answers old address written (Err (Exception code)) new =
    Asks {A = List Bool} answers old (ReadCoils address 1) (coils_read 1) (Ok (Err code)) new
ReadsCoil answers old address written result new =
    (states : List Bool) × Asks answers old (ReadCoils address 1) (coils_read 1) (Ok (Ok states)) new
    × JudgesState written (slice_index_or states 0 false) result

-- As many holding registers as the encoding has were read once, and answered so.
abbrev pub ReadsRegisters : {S : Type 0} → (S → Asked → Answer → S → Type 0) → S → ℕ → Encoding → List ℕ → Result (Unit {0}) ReadBackError → S → Type 0
ReadsRegisters answers old address encoding written (Err (Call error)) new =
    Asks {A = List ℕ} answers old (ReadHoldingRegisters address (width encoding.kind)) (holding_registers_read (width encoding.kind)) (Err error) new
ReadsRegisters answers old address encoding written (Err (Exception code)) new =
    Asks {A = List ℕ} answers old (ReadHoldingRegisters address (width encoding.kind)) (holding_registers_read (width encoding.kind)) (Ok (Err code)) new
ReadsRegisters answers old address encoding written result new =
    (found : List ℕ) × Asks answers old (ReadHoldingRegisters address (width encoding.kind)) (holding_registers_read (width encoding.kind)) (Ok (Ok found)) new
    × JudgesWords encoding written found result

-- A point was read once, alone: it holds these words, or others, or the read failed. No other table can have been written.
abbrev pub ReadsIn : {S : Type 0} → Table → (S → Asked → Answer → S → Type 0) → S → Point → List ℕ → Result (Unit {0}) ReadBackError → S → Type 0
ReadsIn Coils answers old point words result new = ReadsCoil answers old point.address (is_on words) result new
ReadsIn HoldingRegisters answers old point words result new = ReadsRegisters answers old point.address point.encoding words result new
ReadsIn _ answers old point words result new = ⊥

abbrev pub ReadsBack : {S : Type 0} → (S → Asked → Answer → S → Type 0) → S → Point → List ℕ → Result (Unit {0}) ReadBackError → S → Type 0
ReadsBack answers old point words result new = ReadsIn point.table answers old point words result new

-- Words were written at a point by one request, which the device confirmed, and the read behind it found so.
pub record WrittenThenRead {S : Type 0} (answers : S → Asked → Answer → S → Type 0) (old : S) (point : Point) (words : List ℕ) (found : Result (Unit {0}) ReadBackError) (new : S) : Type 0 where
  pub between : S
  pub written : AsksWrite answers old point.table point.address words (Ok (Ok tt)) between
  pub read : ReadsBack answers between point words found new

-- Words were written at a point and read back; or the one request that writes them failed so, and nothing was read.
abbrev pub WritesThenReads : {S : Type 0} → (S → Asked → Answer → S → Type 0) → S → Point → List ℕ → Result (Unit {0}) VerifiedWriteError → S → Type 0
WritesThenReads answers old point words (Ok done) new = WrittenThenRead answers old point words (Ok tt) new
WritesThenReads answers old point words (Err (verified.ReadBack error)) new = WrittenThenRead answers old point words (Err error) new
WritesThenReads answers old point words (Err (verified.Write (write.Call error))) new =
    AsksWrite answers old point.table point.address words (Err error) new
WritesThenReads answers old point words (Err (verified.Write (write.Exception code))) new =
    AsksWrite answers old point.table point.address words (Ok (Err code)) new
WritesThenReads answers old point words (Err (verified.Write (write.Refused error))) new = ⊥

-- The words of a text were written at a point and read back so.
pub record TextThenRead {S : Type 0} (answers : S → Asked → Answer → S → Type 0) (old : S) (point : Point) (text : List ℕ) (found : Result (Unit {0}) ReadBackError) (new : S) : Type 0 where
  pub words : List ℕ
  pub stand : AreToBeWritten point text words
  pub done : WrittenThenRead answers old point words found new

-- a text was written at a point and read back; or it was not written, and nothing was read
abbrev pub WritesVerified : {S : Type 0} → (S → Asked → Answer → S → Type 0) → S → Point → List ℕ → Result (Unit {0}) VerifiedWriteError → S → Type 0
WritesVerified answers old point text (Ok done) new = TextThenRead answers old point text (Ok tt) new
WritesVerified answers old point text (Err (verified.ReadBack error)) new = TextThenRead answers old point text (Err error) new
WritesVerified answers old point text (Err (verified.Write error)) new = WritesPoint answers old point text (Err error) new
