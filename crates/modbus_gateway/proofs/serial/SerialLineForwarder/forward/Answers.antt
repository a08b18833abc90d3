use Rattle.std.proofs.Common.{◌≡◌, ◌≢◌, sym, ap, subst, ◌∙◌}
use Rattle.modbus_link.specs.Line.{meaning_of}
use Rattle.modbus_frame.specs.Meaning.{Asked, Custom, meaning}
use Rattle.modbus_client.specs.LineReading.{line_protocol, silent_protocol}
use Rattle.modbus_client.specs.Rtu.{rtu_heading}
use Rattle.modbus_reconnect.specs.SettleState.{line_by}
use Rattle.modbus_reconnect.specs.OnLine.{CallsRaw}
use Rattle.modbus_gateway.specs.Serial.{SerialState, to_unit, CallsSlave}
use Rattle.modbus_gateway.proofs.Exchanging.{keeps_sending, keeps_call, calls_compared}
use Rattle.modbus_gateway.proofs.serial.SerialLineForwarder.forward.Goals.{in-WriteMultipleCoils+in-Owned-1, in-WriteMultipleCoils+in-Borrowed-1, in-WriteMultipleRegisters+in-Owned-1, in-WriteMultipleRegisters+in-Borrowed-1, in-ReadWriteMultipleRegisters+in-Owned-1, in-ReadWriteMultipleRegisters+in-Borrowed-1, in-Custom+in-Owned-1, in-Custom+in-Borrowed-1, in-ReadCoils-1, in-WriteMultipleCoils+in-Owned-2, in-WriteMultipleCoils+in-Borrowed-2, in-WriteMultipleRegisters+in-Owned-2, in-WriteMultipleRegisters+in-Borrowed-2, in-ReadWriteMultipleRegisters+in-Owned-2, in-ReadWriteMultipleRegisters+in-Borrowed-2, in-Custom+in-Owned-2, in-Custom+in-Borrowed-2, in-ReadCoils-2}
use Rattle.modbus_gateway.proofs.serial.SerialLineForwarder.forward.Goals as goal

pub returns-then-is_broadcast : goal.returns-then-is_broadcast
returns-then-is_broadcast g c =
    keeps_sending (line_by line_protocol silent_protocol rtu_heading (meaning_of g.L.Ends.input g.L.Ends.output g.L.Ends.line) g.L.PolledLink.not_ready g.L.IdleLink.looks)
    c.args.self.now c.set_slave.new.self c.send.new.self c.args.request.slave (meaning c.args.request.request) c.answer_broadcast.result
    (c.set_slave.ensures.gives ∙ ap (λ (line : SerialState g.row.L.Denot). to_unit c.args.request.slave line) c.self.view_is)
    c.send.result (c.is_broadcast.ensures.0 c.if-is_broadcast.true) c.send.ensures c.answer_broadcast.ensures

pub returns-in-ReportServerId : goal.returns-in-ReportServerId
returns-in-ReportServerId g c =
    let m = line_by line_protocol silent_protocol rtu_heading (meaning_of g.L.Ends.input g.L.Ends.output g.L.Ends.line) g.L.PolledLink.not_ready g.L.IdleLink.looks in
    let single : c.args.request.slave ≢ 0 = λ zero. (let on = c.is_broadcast.ensures.1 zero in cc) in
    let same : c.match-request-2.self ≡ c.call_raw.new.self = elim c.match-request-2.branch [ in-WriteMultipleCoils+in-Owned-1 w ↦ w.self-is | in-WriteMultipleCoils+in-Borrowed-1 w ↦ w.self-is | in-WriteMultipleRegisters+in-Owned-1 w ↦ w.self-is | in-WriteMultipleRegisters+in-Borrowed-1 w ↦ w.self-is | in-ReadWriteMultipleRegisters+in-Owned-1 w ↦ w.self-is | in-ReadWriteMultipleRegisters+in-Borrowed-1 w ↦ w.self-is | in-Custom+in-Owned-1 w ↦ w.self-is | in-Custom+in-Borrowed-1 w ↦ w.self-is | in-ReadCoils-1 w ↦ w.self-is ] in
    let calls = subst (λ (asked : Asked). CallsSlave m c.set_slave.new.self asked c.call_raw.result c.call_raw.new.self) (sym (ap meaning c.in-ReportServerId.is)) c.call_raw.ensures in
    keeps_call m c.args.self.now c.set_slave.new.self c.match-request-2.self c.args.request.slave (meaning c.args.request.request) c.answer_call.result
    (c.set_slave.ensures.gives ∙ ap (λ (line : SerialState g.row.L.Denot). to_unit c.args.request.slave line) c.self.view_is)
    c.call_raw.result single (subst (λ (new : SerialState g.row.L.Denot). CallsSlave m c.set_slave.new.self (meaning c.args.request.request) c.call_raw.result new) (sym same) calls) c.answer_call.ensures

pub returns-in-Custom : goal.returns-in-Custom
returns-in-Custom g c =
    let m = line_by line_protocol silent_protocol rtu_heading (meaning_of g.L.Ends.input g.L.Ends.output g.L.Ends.line) g.L.PolledLink.not_ready g.L.IdleLink.looks in
    let single : c.args.request.slave ≢ 0 = λ zero. (let on = c.is_broadcast.ensures.1 zero in cc) in
    let same : c.match-request-4.self ≡ c.call_raw-in-Custom.new.self = elim c.match-request-4.branch [ in-WriteMultipleCoils+in-Owned-2 w ↦ w.self-is | in-WriteMultipleCoils+in-Borrowed-2 w ↦ w.self-is | in-WriteMultipleRegisters+in-Owned-2 w ↦ w.self-is | in-WriteMultipleRegisters+in-Borrowed-2 w ↦ w.self-is | in-ReadWriteMultipleRegisters+in-Owned-2 w ↦ w.self-is | in-ReadWriteMultipleRegisters+in-Borrowed-2 w ↦ w.self-is | in-Custom+in-Owned-2 w ↦ w.self-is | in-Custom+in-Borrowed-2 w ↦ w.self-is | in-ReadCoils-2 w ↦ w.self-is ] in
    let raw = subst (λ bytes. CallsRaw m c.set_slave.new.self (Custom c.in-Custom.function bytes) c.call_raw-in-Custom.result c.call_raw-in-Custom.new.self) c.as_slice.ensures.value c.call_raw-in-Custom.ensures in
    let calls = subst (λ (asked : Asked). CallsSlave m c.set_slave.new.self asked c.call_raw-in-Custom.result c.call_raw-in-Custom.new.self) (sym (ap meaning c.in-Custom.is)) raw in
    keeps_call m c.args.self.now c.set_slave.new.self c.match-request-4.self c.args.request.slave (meaning c.args.request.request) c.answer_call-in-Custom.result
    (c.set_slave.ensures.gives ∙ ap (λ (line : SerialState g.row.L.Denot). to_unit c.args.request.slave line) c.self.view_is)
    c.call_raw-in-Custom.result single (subst (λ (new : SerialState g.row.L.Denot). CallsSlave m c.set_slave.new.self (meaning c.args.request.request) c.call_raw-in-Custom.result new) (sym same) calls) c.answer_call-in-Custom.ensures

pub returns-in_default : goal.returns-in_default
returns-in_default g c =
    let m = line_by line_protocol silent_protocol rtu_heading (meaning_of g.L.Ends.input g.L.Ends.output g.L.Ends.line) g.L.PolledLink.not_ready g.L.IdleLink.looks in
    let single : c.args.request.slave ≢ 0 = λ zero. (let on = c.is_broadcast.ensures.1 zero in cc) in
    keeps_call m c.args.self.now c.set_slave.new.self c.call.new.self c.args.request.slave (meaning c.args.request.request) c.answer_call-in_default.result
    (c.set_slave.ensures.gives ∙ ap (λ (line : SerialState g.row.L.Denot). to_unit c.args.request.slave line) c.self.view_is)
    c.call.result single (calls_compared m c.set_slave.new.self c.call.new.self c.args.request.request c.call.result c.in_default.not-ReportServerId c.in_default.not-Custom c.call.ensures) c.answer_call-in_default.ensures
