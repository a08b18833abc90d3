use Rattle.std.proofs.Common.{◌≡◌}
use Rattle.modbus_app.specs.Make.{line_made, number_at}
use Rattle.modbus_app.proofs.make.frames.Given as goal

abbrev pub invariant-loop-made : goal.invariant-loop-made
invariant-loop-made l = record {
  line : l.frames.items ≡ line_made l._made;
  number : l.x ≡ number_at l._made;
}
