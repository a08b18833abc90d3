use Rattle.std.proofs.Common.{◌≡◌, ◌-◌}
use Rattle.modbus_pdu.specs.ResponseOf.{objects_at}
use Rattle.modbus_pdu.proofs.ReadObjects.{with_front}
use Rattle.modbus_pdu.proofs.response_decoder.read_objects.Given as goal

abbrev pub invariant-loop : goal.invariant-loop
invariant-loop l = (with_front l.found.items (objects_at (l.count - l.counter) l.cursor.at l.pdu) ≡ objects_at l.count l.fn.cursor.at l.pdu) × (l.cursor.bytes.now ≡ l.fn.cursor.bytes.now)
