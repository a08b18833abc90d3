use Rattle.std.proofs.Common.{◌≡◌, ◌+◌, ◌-◌, ◌≤◌, List, [], ◌++◌, length, drop}
use Rattle.modbus_rtu.specs.Limits.{max_frame}
use Rattle.modbus_field.specs.Bursts.{Heard, said}
use Rattle.modbus_c.specs.Line.{HearsEach}
use Rattle.modbus_c.proofs.line.hear_burst.Given as goal

abbrev pub invariant-messages : goal.invariant-messages
invariant-messages g l = record {
  within : l.start ≤ length l.burst;
  heard : (heard : List Heard) × (said l.burst ≡ heard ++ said (drop l.start l.burst)) × HearsEach g.U.LineUnit.units l.initial.units [] heard l.units l.reply.items;
  room : max_frame ≤ length l.reply.items + l.reply.spare;
  most : length l.reply.items ≤ max_frame;
}

abbrev pub decreases-messages : goal.decreases-messages
decreases-messages g l = length l.burst - l.start
