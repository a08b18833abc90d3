use Rattle.modbus_tcp.proofs.Fronts.{taken_off}
use Rattle.modbus_tcp.proofs.decoder.AduDecoder.decode.Goals as goal

pub advance-requires : goal.advance-requires
advance-requires c =
    let found = rw c.in-Ok-Message.field-0-is at c.in-Ok-Message.ensures.finds in
    let off = taken_off c.in-Ok-Message.end found.0 found.2 in
    rw (c.in_ok-pdu-in-Ok-Message.ensures.front, ← c.as_slice.ensures) off.0

pub returns-in_ok-pdu-in-Ok-Message-clause-takes : goal.returns-in_ok-pdu-in-Ok-Message-clause-takes
returns-in_ok-pdu-in-Ok-Message-clause-takes c =
    let found = rw c.in-Ok-Message.field-0-is at c.in-Ok-Message.ensures.finds in
    let off = taken_off c.in-Ok-Message.end found.0 found.2 in
    rw (c.advance.ensures, c.in_ok-pdu-in-Ok-Message.ensures.front, c.in_ok-pdu-in-Ok-Message.ensures.rest.0, ← c.as_slice.ensures, off.1) found.0
