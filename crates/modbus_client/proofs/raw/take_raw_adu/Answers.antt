use Rattle.std.proofs.Common.{refl, drop}
use Rattle.modbus_pdu.specs.Message.{message}
use Rattle.modbus_tcp.specs.Stream.{BeginsWith}
use Rattle.modbus_client.specs.Tcp.{header_seen}
use Rattle.modbus_client.proofs.raw.take_raw_adu.Goals as goal

pub returns-in-Err-Refused-clause-looks : goal.returns-in-Err-Refused-clause-looks
returns-in-Err-Refused-clause-looks c = λ asked cuts.
    let found = rw c.in-Ok-Message.field-0-is at c.in-Ok-Message.ensures.finds in
    let begins : BeginsWith c.args.held.now.items (message c.in-Ok-Message.header c.in-Ok-Message.pdu.now) c.advance-in-Err-Refused.new.self.items = rw (c.advance-in-Err-Refused.ensures.items, ← c.as_slice.ensures) found.0 in
    (header_seen c.in-Ok-Message.header, c.in-Ok-Message.pdu.now, (c.in-Ok-Message.header, begins, refl), rw c.in-Err-Refused.reason-is (rw c.in-Err-Refused.field-0-is at c.in-Err-Refused.ensures.result))

pub returns-in-Err-NoMemory-clause-looks : goal.returns-in-Err-NoMemory-clause-looks
returns-in-Err-NoMemory-clause-looks c = λ asked cuts.
    let found = rw c.in-Ok-Message.field-0-is at c.in-Ok-Message.ensures.finds in
    let begins : BeginsWith c.args.held.now.items (message c.in-Ok-Message.header c.in-Ok-Message.pdu.now) (drop c.in-Ok-Message.end c.args.held.now.items) = rw (← c.as_slice.ensures) found.0 in
    (drop c.in-Ok-Message.end c.args.held.now.items, header_seen c.in-Ok-Message.header, c.in-Ok-Message.pdu.now, (c.in-Ok-Message.header, begins, refl), (rw c.in-Err-NoMemory.field-0-is at c.in-Err-NoMemory.ensures.memory) refl)
