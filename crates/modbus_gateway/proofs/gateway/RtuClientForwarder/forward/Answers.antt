use Rattle.std.proofs.Common.{◌≢◌}
use Rattle.modbus_gateway.proofs.Answering.{keeps_sending, keeps_call}
use Rattle.modbus_gateway.proofs.gateway.RtuClientForwarder.forward.Goals as goal

pub returns-then-is_broadcast : goal.returns-then-is_broadcast
returns-then-is_broadcast g c =
    keeps_sending _ c.args.self.now c.set_slave.new.self c.send.new.self c.args.request.slave _ c.answer_broadcast.result c.set_slave.ensures.gives
    c.send.result (c.is_broadcast.ensures.0 c.if-is_broadcast.true) c.send.ensures c.answer_broadcast.ensures

pub returns-else-is_broadcast : goal.returns-else-is_broadcast
returns-else-is_broadcast g c =
    let single : c.args.request.slave ≢ 0 = λ zero. (let on = c.is_broadcast.ensures.1 zero in cc) in
    keeps_call _ c.args.self.now c.set_slave.new.self c.call.new.self c.args.request.slave _ c.answer_call.result c.set_slave.ensures.gives
    c.call.result single c.call.ensures.called c.answer_call.ensures
