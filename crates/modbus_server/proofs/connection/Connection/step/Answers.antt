use Rattle.std.proofs.Common.{rules}
use Rattle.modbus_server.specs.Step.{Stepped}
use Rattle.modbus_link.specs.Through.{moved}
use Rattle.modbus_server.proofs.Through.{stepped_through}
use Rattle.modbus_server.proofs.connection.Connection.step.Goals as goal
use Rattle.modbus_server.specs.Moment.{moment}

pub returns : goal.returns
returns g c =
    moved (λ a b k m. Stepped g.I.Framing.framing g.V.Answerer.answering c.args.self.now c.step_link.new.self (moment c.args.service.now (g.S.Ends.input a) (g.K.Ends.output k)) (moment c.step_link.new.service (g.S.Ends.input b) (g.K.Ends.output m)) c.args.may_read c.step_link.result)
    c.new.result.source.now _ c.step_link.new.link.source.now _ c.new.result.sink.now _ c.step_link.new.link.sink.now _
    (search rules) (search rules) (search rules) (search rules)
    (stepped_through g.I.Framing.framing g.V.Answerer.answering c.args.self.now c.step_link.new.self c.args.service.now c.step_link.new.service _ _ _ _ _ _ _ _ c.args.may_read c.step_link.result c.step_link.ensures)
