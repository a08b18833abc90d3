use Rattle.std.proofs.Common.{◌≡◌, ◌+◌, ◌*◌, ◌-◌, ◌≤◌, length}
use Rattle.modbus_rtu.specs.ResponseHead.{after_objects}
use Rattle.modbus_rtu.proofs.response_length.objects_end.Given as goal
use Rattle.modbus_rtu.specs.Limits.{first_object, longest_object}

abbrev pub invariant-loop : goal.invariant-loop
invariant-loop l = record {
  left : after_objects l.adu (l.count - l.counter) l.place ≡ after_objects l.adu l.count first_object;
  from : first_object ≤ l.place;
  within : l.place ≤ length l.adu;
  most : l.place ≤ first_object + longest_object * l.counter;
}
