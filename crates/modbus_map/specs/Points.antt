-- What is written at a point.
use Rattle.std.specs.Prelude.{◌≡◌, ℕ, ◌&&◌, ◌⊎◌, Bool, true, false, List, IfOk}
use Rattle.modbus_map.specs.declared.kind.Table.{Table}
use Rattle.modbus_map.specs.declared.kind.Table.TheVariants.{Coils, DiscreteInputs, InputRegisters, HoldingRegisters}
use Rattle.modbus_map.specs.declared.point.Point.{Point}
use Rattle.modbus_map.specs.declared.write_error.WriteError.{WriteError}
use Rattle.modbus_map.specs.declared.write_error.WriteError.TheVariants.{NotWritable}
use Rattle.modbus_map.specs.Reading.{value_in, IsRefusedBy}
use Rattle.modbus_map.specs.Writing.{AreWordsFor, IsWhy}

-- a client can write in the table (Modbus Application Protocol V1.1b3, section 4.3)
abbrev pub is_writable : Table → Bool
is_writable Coils = true
is_writable DiscreteInputs = false
is_writable InputRegisters = false
is_writable HoldingRegisters = true

-- the point may be written
abbrev pub may_write : Point → Bool
may_write point = point.is_writable && is_writable point.table

-- the words stand for the value of the text
abbrev pub AreWordsOfText : Point → List ℕ → List ℕ → Type 0
AreWordsOfText point text words = IfOk (value_in point.encoding.kind text) (λ value. AreWordsFor point.encoding value words)

-- Why a text is not written at a point: it may not be written, or the text stands for no value, or its value has no words.
abbrev pub IsRefusal : Point → List ℕ → WriteError → Type 0
IsRefusal point text error =
    ((error ≡ NotWritable) × (may_write point ≡ false))
    ⊎ (IsRefusedBy (value_in point.encoding.kind text) error
    ⊎ IfOk (value_in point.encoding.kind text) (λ value. IsWhy point.encoding value error))
