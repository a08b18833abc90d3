use Rattle.std.proofs.Common.{inl, inr, ◌∙◌, drop, ap}
use Rattle.modbus_frame.specs.declared.tcp.Header.{Header}
use Rattle.modbus_pdu.specs.Message.{Message}
use Rattle.modbus_tcp.specs.Stream.{empty, unfinished, no_length, foreign}
use Rattle.modbus_client.specs.Tcp.{header_seen}
use Rattle.modbus_client.proofs.transactions.end_of_another.Goals as goal

pub returns-then-is_own : goal.returns-then-is_own
returns-then-is_own c = λ message others begins.
    let found = rw c.in-Ok-Message.field-0-is at c.in-Ok-Message.ensures.finds in
    let same = c.one_front.ensures.adu c.args.bytes.now others (drop c.in-Ok-Message.end c.args.bytes.now) message (record { header = c.in-Ok-Message.header; pdu = c.in-Ok-Message.field-0-1.now }) begins found.0 in
    ap (λ (m : Message Header). header_seen m.header) same.0 ∙ c.is_own.ensures.0 c.if-is_own.true

pub returns-in-Ok-Waiting : goal.returns-in-Ok-Waiting
returns-in-Ok-Waiting c = λ message others begins. elim (rw c.in-Ok-Waiting.field-0-is at c.in-Ok-Waiting.ensures.finds).1 [
  | inl none ↦ absurd (c.one_front.ensures.apart c.args.bytes.now others message empty begins none)
  | inr some ↦ absurd (c.one_front.ensures.apart c.args.bytes.now others message unfinished begins some)
]

pub returns-in-Err-InvalidLength : goal.returns-in-Err-InvalidLength
returns-in-Err-InvalidLength c = λ message others begins.
    absurd (c.one_front.ensures.apart c.args.bytes.now others message no_length begins (rw c.in-Err-InvalidLength.field-0-is at c.in-Err-InvalidLength.ensures.finds))

pub returns-in-Err-InvalidProtocol : goal.returns-in-Err-InvalidProtocol
returns-in-Err-InvalidProtocol c = λ message others begins.
    absurd (c.one_front.ensures.apart c.args.bytes.now others message (foreign c.in-Err-InvalidProtocol.field-0-0) begins (rw c.in-Err-InvalidProtocol.field-0-is at c.in-Err-InvalidProtocol.ensures.finds))
