use Rattle.std.proofs.Common.{rules, take, drop}
use Rattle.modbus_c.specs.Calls.{header_asked as header_of}
use Rattle.modbus_c.specs.Inbox.{held}
use Rattle.modbus_c.proofs.Judging.{found_under}
use Rattle.modbus_c.proofs.call.modbus_call_answer.Goals as goal

pub returns-after-told-ne-MODBUS_NO_ROOM-clause-room : goal.returns-after-told-ne-MODBUS_NO_ROOM-clause-room
returns-after-told-ne-MODBUS_NO_ROOM-clause-room c = λ is.
    let told = c.tell-told.ensures.room is in let call = c.args.call.now in let bytes = take c.count-len.result call.inbox.bytes in
    let left = drop c.in-Message.used bytes in (
      left,
      c.in-Ok.field-0.0,
      record {
        pdu = c.in-Message.pdu.now;
        finds = found_under call.tcp c.asked_by-asked.result (header_of call) c.in-Message.seen (held call.inbox) bytes left c.in-Message.pdu.now
            c.in-Message.ensures.finds c.asked_by-asked.ensures told.0 c.count-len.ensures.front;
        reads = search rules;
      },
      told.1,
      told.2,
    )
