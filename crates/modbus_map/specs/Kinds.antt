-- What lies at a point, by the registers that it takes (Modbus Application Protocol V1.1b3, sections 4.3 and 4.4).
use Rattle.std.specs.Prelude.{ℕ, Bool, true, false}
use Rattle.modbus_map.specs.declared.kind.Kind.{Kind}
use Rattle.modbus_map.specs.declared.kind.Kind.TheVariants.{Bit, U16, I16, U32, I32, U64, I64, F32, F64, Text}
use Rattle.modbus_map.specs.declared.kind.Kind.TheVariants as kind
use Rattle.modbus_map.specs.declared.kind.Table.{Table}
use Rattle.modbus_map.specs.declared.kind.Table.TheVariants.{Coils, DiscreteInputs, InputRegisters, HoldingRegisters}

-- how many registers it takes, and one bit for a state
abbrev pub width : Kind → ℕ
width kind.Bool = 1
width (Bit place) = 1
width U16 = 1
width I16 = 1
width U32 = 2
width I32 = 2
width U64 = 4
width I64 = 4
width F32 = 2
width F64 = 4
width (Text words) = words

-- it is an integer
abbrev pub is_integer : Kind → Bool
is_integer U16 = true
is_integer I16 = true
is_integer U32 = true
is_integer I32 = true
is_integer U64 = true
is_integer I64 = true
is_integer _ = false

-- it lies in registers: every kind but the state of a coil or a discrete input
abbrev pub is_of_registers : Kind → Bool
is_of_registers kind.Bool = false
is_of_registers _ = true

-- the places of a table are registers
abbrev pub has_registers : Table → Bool
has_registers Coils = false
has_registers DiscreteInputs = false
has_registers InputRegisters = true
has_registers HoldingRegisters = true
