use Rattle.std.proofs.Common.{inr, refl}
use Rattle.modbus_server.proofs.Running.{ran_none}
use Rattle.modbus_server.proofs.Completing.{completes_until}
use Rattle.modbus_server.proofs.serving.serve_until.Goals as goal
use Rattle.modbus_server.specs.Moment.{signalled}

pub returns-in-Err-clause-ran : goal.returns-in-Err-clause-ran
returns-in-Err-clause-ran g c = ran_none g.I.Framing.framing g.V.Answerer.answering g.X.Stop.stops g.X.Stop.looks c.args.service.now _ _ _ _ c.open.ensures.stands

pub returns-in-Err-clause-complete : goal.returns-in-Err-clause-complete
returns-in-Err-clause-complete g c = λ told clean fit few no_read no_write. inr refl

pub returns-in-Ok-clause-complete : goal.returns-in-Ok-clause-complete
returns-in-Ok-clause-complete g c =
    completes_until g.I.Framing.framing g.V.Answerer.answering (signalled g.X.Stop.stops g.X.Stop.looks) _ _ _ c.run.result
    c.clean_lines_are_served.ensures c.run.ensures
