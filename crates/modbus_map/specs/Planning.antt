-- Why points have no plan (Modbus Application Protocol V1.1b3, sections 4.3, 4.4 and 6.1 to 6.4).
use Rattle.std.specs.Prelude.{◌≡◌, ℕ, Bool, ◌&&◌, not, List, position, Option, Some, None}
use Rattle.modbus_poll.specs.declared.span.Limits.{Limits}
use Rattle.modbus_poll.specs.Spans.{is_allowed}
use Rattle.modbus_map.specs.declared.kind.Table.{Table}
use Rattle.modbus_map.specs.declared.kind.Table.TheVariants.{Coils, DiscreteInputs, InputRegisters, HoldingRegisters}
use Rattle.modbus_map.specs.declared.point.Point.{Point}
use Rattle.modbus_map.specs.Gathering.{span_of, is_in, bits_of}

-- what one read of a table may give, by the limits of a device
abbrev pub limits_in : Limits → Table → Limits
limits_in limits Coils = bits_of limits
limits_in limits DiscreteInputs = bits_of limits
limits_in limits InputRegisters = limits
limits_in limits HoldingRegisters = limits

-- A point lies in this table, and no read within the limits can give it: it has no register or bit, more than they allow, or one past the
-- last address.
abbrev pub is_over : Limits → Table → Point → Bool
is_over limits table point = is_in table point.table && not (is_allowed limits (span_of point))

-- the same of a point in its own table, within the limits of its device
abbrev pub is_out_of_reach : Limits → Point → Bool
is_out_of_reach limits point = not (is_allowed (limits_in limits point.table) (span_of point))

-- the place of the first point that a table can't be planned for, and of the first that a device can't
abbrev pub first_over : Limits → Table → List Point → Option ℕ
first_over limits table points = position (is_over limits table) points

abbrev pub first_out_of_reach : Limits → List Point → Option ℕ
first_out_of_reach limits points = position (is_out_of_reach limits) points

-- This is the place of the first point for which a table has no plan.
abbrev pub IsWhyNoPlan : Limits → Table → List Point → ℕ → Type 0
IsWhyNoPlan limits table points place = first_over limits table points ≡ Some place

-- This is the place of the first point for which a device has no plans.
abbrev pub IsWhyNoPlans : Limits → List Point → ℕ → Type 0
IsWhyNoPlans limits points place = first_out_of_reach limits points ≡ Some place
