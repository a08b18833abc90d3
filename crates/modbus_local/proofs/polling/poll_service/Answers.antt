use Rattle.modbus_local.proofs.Served.{ok_more, runs_over}
use Rattle.modbus_local.proofs.polling.poll_service.Goals as goal

pub returns-clause-run : goal.returns-clause-run
returns-clause-run g c =
    ok_more _ _ (λ values given.
    let over = runs_over c.requests_have_sizes.ensures g.V.Answerer.answering c.args.slave.0 c.args.plan.now given.found c.args.service.now c.poll_answerer.new.service given.made in
    record { exchanges = over.exchanges; run = over.run; found = given.found; asked = over.asked; given = given.given })
    c.poll_answerer.result c.poll_answerer.ensures.values
