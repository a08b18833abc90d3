use Rattle.std.proofs.Common.{rules}
use Rattle.modbus_server.specs.Step.{Ran}
use Rattle.modbus_link.specs.Through.{moved}
use Rattle.modbus_server.proofs.Through.{ran_through}
use Rattle.modbus_server.proofs.serving.serve.Goals as goal
use Rattle.modbus_server.specs.Moment.{moment}

pub returns-clause-ran : goal.returns-clause-ran
returns-clause-ran g c =
    moved (λ a b k m. Ran g.I.Framing.framing g.V.Answerer.answering c.args.turns (moment c.args.service.now (g.S.Ends.input a) (g.K.Ends.output k)) (moment c.serve_link.new.service (g.S.Ends.input b) (g.K.Ends.output m)) c.serve_link.result)
    c.new.result.source.now _ c.serve_link.new.link.source.now _ c.new.result.sink.now _ c.serve_link.new.link.sink.now _
    (search rules) (search rules) (search rules) (search rules)
    (ran_through g.I.Framing.framing g.V.Answerer.answering c.args.service.now c.serve_link.new.service _ _ _ _ _ _ _ _ c.args.turns c.serve_link.result c.serve_link.ensures.ran)

pub returns-clause-complete : goal.returns-clause-complete
returns-clause-complete g c = c.clean_lines_are_served.ensures _ _ _ _ (returns-clause-ran g c)
