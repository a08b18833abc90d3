use Rattle.modbus_field.proofs.Own.{sends_own, keeps_addresses}
use Rattle.modbus_field.proofs.Serving.{answers, serves, no_burst}
use Rattle.modbus_field.proofs.burst.line.process.Goals as goal

pub returns-clause-answers : goal.returns-clause-answers
returns-clause-answers g c = answers g.V.Answerer.answering _ _ _ _ _ _ _ c.serve.result c.serve.ensures.ran

pub returns-clause-serves : goal.returns-clause-serves
returns-clause-serves g c = serves g.V.Answerer.answering _ _ _ _ _ _ _ c.serve.result c.serve.ensures.ran

pub returns-clause-causes : goal.returns-clause-causes
returns-clause-causes g c = no_burst g.V.Answerer.answering _ _ _ _ _ c.serve.result c.serve.ensures.ran.served

pub returns-clause-own : goal.returns-clause-own
returns-clause-own g c = sends_own g.V.Answerer.answering g.V.LineAnswerer.addresses g.V.LineAnswerer.is_quiet c.keep_to_own.ensures.own _ _ _ c.serve.result c.keep_to_own.ensures.quiet c.serve.ensures.ran

pub returns-clause-addresses : goal.returns-clause-addresses
returns-clause-addresses g c =
    keeps_addresses g.V.Answerer.answering g.V.LineAnswerer.addresses g.V.LineAnswerer.is_quiet c.keep_to_own.ensures.own _ _ _ c.serve.result c.keep_to_own.ensures.quiet c.serve.ensures.ran
