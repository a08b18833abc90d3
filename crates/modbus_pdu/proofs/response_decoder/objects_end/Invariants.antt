use Rattle.std.proofs.Common.{◌≡◌, ◌-◌, ◌≤◌, length}
use Rattle.modbus_pdu.specs.ResponseOf.{objects_at, place_after}
use Rattle.modbus_pdu.proofs.response_decoder.objects_end.Given as goal

abbrev pub invariant-loop : goal.invariant-loop
invariant-loop l = record {
  left : place_after (objects_at (l.count - l.counter) l.end l.pdu) ≡ place_after (objects_at l.count l.place l.pdu);
  within : l.end ≤ length l.pdu;
}
