use Rattle.modbus_server.proofs.Stepping.{stepped_error, stepped_silent, stepped_hungry}
use Rattle.modbus_server.proofs.Polling.{steps_sent, steps_read}
use Rattle.modbus_server.proofs.drive.poll_step.Goals as goal

pub returns-in-Err-clause-steps : goal.returns-in-Err-clause-steps
returns-in-Err-clause-steps g c =
    rw c.tell_next.ensures.told (stepped_error g.I.Framing.framing g.V.Answerer.answering c.args.connection.now c.next.new.self c.args.service.now c.next.new.service _ _ _ g.I.Framing.told c.in-Err.error c.tell_next.ensures.own c.in-Err.ensures)

pub returns-in-Ok-Silent-clause-steps : goal.returns-in-Ok-Silent-clause-steps
returns-in-Ok-Silent-clause-steps g c =
    stepped_silent g.I.Framing.framing g.V.Answerer.answering c.args.connection.now c.next.new.self c.args.service.now c.next.new.service _ _ _ g.I.Framing.told (rw c.in-Ok-Silent.field-0-is at c.in-Ok-Silent.ensures)

pub returns-else-may_read-clause-steps : goal.returns-else-may_read-clause-steps
returns-else-may_read-clause-steps g c =
    stepped_hungry g.I.Framing.framing g.V.Answerer.answering c.args.connection.now c.next.new.self c.args.service.now c.next.new.service _ _ _ g.I.Framing.told (rw c.in-Ok-Waiting.field-0-is at c.in-Ok-Waiting.ensures) c.if-may_read.false

pub returns-in-Ok-Reply-clause-steps : goal.returns-in-Ok-Reply-clause-steps
returns-in-Ok-Reply-clause-steps g c =
    steps_sent g.I.Framing.framing g.V.Answerer.answering g.I.Framing.told c.args.connection.now c.next.new.self c.send.new.connection c.args.service.now c.next.new.service _ _ _ _ c.args.may_read
    (rw c.in-Ok-Reply.field-0-is at c.in-Ok-Reply.ensures) c.send.ensures.source c.send.ensures.sends c.send.result c.send.ensures.writes c.send.ensures.cause

pub returns-then-may_read-clause-steps : goal.returns-then-may_read-clause-steps
returns-then-may_read-clause-steps g c =
    steps_read g.I.Framing.framing g.V.Answerer.answering g.I.Framing.told c.args.connection.now c.next.new.self c.read_more.new.connection c.args.service.now c.next.new.service _ _ _ _ c.args.may_read
    (rw c.in-Ok-Waiting.field-0-is at c.in-Ok-Waiting.ensures) c.read_more.ensures.sink c.if-may_read.true c.read_more.result c.read_more.ensures.reads
