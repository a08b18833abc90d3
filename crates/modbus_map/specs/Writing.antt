-- What is written, and why nothing is.
use Rattle.std.specs.Prelude.{◌≡◌, ℕ, ◌-◌, ◌*◌, ◌^◌, ◌<◌, List, ◌++◌, length, replicate, Bool, true, false, ℤ, unsigned_abs, ⊤}
use Rattle.modbus_map.specs.declared.decimal.Decimal.{Decimal}
use Rattle.modbus_map.specs.declared.kind.Kind.{Kind}
use Rattle.modbus_map.specs.declared.kind.Kind.TheVariants as kind
use Rattle.modbus_map.specs.declared.point.Encoding.{Encoding}
use Rattle.modbus_map.specs.declared.scale.Scale.{Scale}
use Rattle.modbus_map.specs.declared.value.PointValue.{PointValue}
use Rattle.modbus_map.specs.declared.value.PointValue.TheVariants.{State, Number, Single, Double, Text}
use Rattle.modbus_map.specs.declared.write_error.WriteError.{WriteError}
use Rattle.modbus_map.specs.declared.write_error.WriteError.TheVariants.{NotWritable, BitOfRegister, NotOfKind, OffGrid, OutOfRange, TooLong, NoMemory}
use Rattle.modbus_map.specs.Kinds.{width, is_integer}
use Rattle.modbus_map.specs.Scales.{worth, IsSame}
use Rattle.modbus_map.specs.Values.{value, integer_as}

-- No integer will do, or none within a range.
abbrev pub Refuses : (ℤ → Type 0) → (ℤ → Type 0) → WriteError → Type 0
Refuses IsWithin Will OffGrid = (n : ℤ) → ¬ Will n
Refuses IsWithin Will OutOfRange = (n : ℤ) → IsWithin n → ¬ Will n
Refuses _ _ _ = ⊥

-- an integer that 64 bits can hold, with a sign or without one
abbrev pub IsOf64 : ℤ → Type 0
IsOf64 n = unsigned_abs n < 2 ^ 64

-- an integer of a kind is worth the number
abbrev pub IsWorth : Scale → Decimal → ℤ → Type 0
IsWorth scale number n = IsSame (worth scale n) number

-- an integer of a kind: that of a number of its words
abbrev pub IsOfKind : Kind → ℤ → Type 0
IsOfKind kind n = (bits : ℕ) × (bits < 2 ^ (16 * width kind)) × (is_integer kind ≡ true) × (integer_as kind bits ≡ n)

-- bytes, and zeros behind them in so many registers
abbrev pub filled : ℕ → List ℕ → List ℕ
filled count bytes = bytes ++ replicate (2 * count - length bytes) 0

-- What is read is what was written: one number, whatever its places; a text with zeros behind it; or the same.
abbrev pub IsReadBack : ℕ → PointValue → PointValue → Type 0
IsReadBack count (Number found) (Number written) = IsSame found written
IsReadBack count (Text found) (Text written) = found ≡ filled count written
IsReadBack count (State found) (State written) = found ≡ written
IsReadBack count (Single found) (Single written) = found ≡ written
IsReadBack count (Double found) (Double written) = found ≡ written
IsReadBack count _ _ = ⊥

-- these are words of the point, and are read as the value
abbrev pub AreWordsFor : Encoding → PointValue → List ℕ → Type 0
AreWordsFor encoding wanted words =
    (length words ≡ width encoding.kind) × IsReadBack (width encoding.kind) (value encoding words) wanted

-- a bit of a register
abbrev pub IsBit : Kind → Type 0
IsBit (kind.Bit place) = ⊤
IsBit _ = ⊥

-- a value of a kind
abbrev pub suits : Kind → PointValue → Bool
suits kind.Bool (State state) = true
suits kind.F32 (Single bits) = true
suits kind.F64 (Double bits) = true
suits (kind.Text count) (Text bytes) = true
suits kind (Number number) = is_integer kind
suits _ _ = false

-- more bytes than so many registers have
abbrev pub IsLonger : ℕ → PointValue → Type 0
IsLonger count (Text bytes) = 2 * count < length bytes
IsLonger count _ = ⊥

-- no integer is worth the value, or none of the kind is
abbrev pub IsOffGrid : Encoding → PointValue → Type 0
IsOffGrid encoding (Number number) = (n : ℤ) → ¬ IsWorth encoding.scale number n
IsOffGrid encoding _ = ⊥

abbrev pub IsOutOfRange : Encoding → PointValue → Type 0
IsOutOfRange encoding (Number number) = (n : ℤ) → IsOfKind encoding.kind n → ¬ IsWorth encoding.scale number n
IsOutOfRange encoding _ = ⊥

-- why a value has no words
abbrev pub IsWhy : Encoding → PointValue → WriteError → Type 0
IsWhy encoding wanted BitOfRegister = IsBit encoding.kind
IsWhy encoding wanted NotOfKind = suits encoding.kind wanted ≡ false
IsWhy encoding wanted OffGrid = IsOffGrid encoding wanted
IsWhy encoding wanted OutOfRange = IsOutOfRange encoding wanted
IsWhy encoding wanted TooLong = IsLonger (width encoding.kind) wanted
IsWhy encoding wanted NoMemory = ⊤
IsWhy encoding wanted NotWritable = ⊥
