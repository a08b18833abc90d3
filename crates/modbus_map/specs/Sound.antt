-- What points a map may have (Modbus Application Protocol V1.1b3, sections 4.3, 4.4 and 6.3).
use Rattle.std.specs.Prelude.{ℕ, ◌+◌, Bool, true, false, ◌&&◌, nat_le, All}
use Rattle.std.specs.List.{AllPass}
use Rattle.modbus_map.specs.declared.kind.Kind.{Kind}
use Rattle.modbus_map.specs.declared.kind.Kind.TheVariants.{Bit}
use Rattle.modbus_map.specs.declared.kind.Kind.TheVariants as kind
use Rattle.modbus_map.specs.declared.kind.Table.{Table}
use Rattle.modbus_map.specs.declared.kind.Table.TheVariants.{Coils, DiscreteInputs, InputRegisters, HoldingRegisters}
use Rattle.modbus_map.specs.declared.point.Point.{Point}
use Rattle.modbus_map.specs.declared.device.Device.{Device}
use Rattle.modbus_map.specs.declared.device.Map.{Map}
use Rattle.modbus_map.specs.Kinds.{width}

-- the places of a table are bits
abbrev pub has_bits : Table → Bool
has_bits Coils = true
has_bits DiscreteInputs = true
has_bits InputRegisters = false
has_bits HoldingRegisters = false

-- a kind lies in a table: a state in bits, a bit of a register among its sixteen, any other kind in registers
abbrev pub fits : Table → Kind → Bool
fits table kind.Bool = has_bits table
fits Coils _ = false
fits DiscreteInputs _ = false
fits _ (Bit place) = nat_le place 15
fits _ _ = true

-- so many registers or bits at an address, which one read of so many can give, end with the last address of a table
abbrev pub are_within : ℕ → ℕ → ℕ → Bool
are_within most address count = nat_le 1 count && nat_le count most && nat_le (address + count) 65536

-- a point that a read of at most so many registers can give
abbrev pub is_sound : ℕ → Point → Bool
is_sound most point = fits point.table point.encoding.kind && are_within most point.address (width point.encoding.kind)

-- each point of a device is
abbrev pub IsSoundDevice : Device → Type 0
IsSoundDevice device = AllPass (is_sound device.limits.most) device.points.items

-- each device of a map is so
abbrev pub IsSoundMap : Map → Type 0
IsSoundMap map = All IsSoundDevice map.devices.items
