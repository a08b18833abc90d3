use Rattle.std.proofs.Common.{◌≡◌, ◌≤◌, ◌+◌, ◌++◌, length, drop}
use Rattle.modbus_pdu.specs.ResponsePdu.{objects}
use Rattle.modbus_pdu.proofs.response_encoder.put_objects.Given as goal

abbrev pub invariant-loop-object : goal.invariant-loop-object
invariant-loop-object l = (l.buf.items ++ objects (drop l.object-index l.found) ≡ l.fn.buf.items ++ objects l.found) × (length (objects (drop l.object-index l.found)) ≤ l.buf.spare) × (l.buf.spare + length (objects l.found) ≡ l.fn.buf.spare + length (objects (drop l.object-index l.found)))
