use Rattle.std.proofs.Common.{◌≡◌, ◌+◌, ◌-◌, ◌^◌, ◌≤◌, length, drop, min}
use Rattle.modbus_pdu.specs.ResponsePdu.{objects}
use Rattle.modbus_pdu.proofs.response_encoder.objects_len.Given as goal

abbrev pub invariant-loop-object : goal.invariant-loop-object
invariant-loop-object l = (min (l.size + length (objects (drop l.object-index l.found))) (2 ^ 64 - 1) ≡ min (length (objects l.found)) (2 ^ 64 - 1)) × (l.size ≤ 2 ^ 64 - 1)
