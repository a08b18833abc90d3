use Rattle.modbus_field.proofs.Below.{runs_below, comes_of_below}
use Rattle.modbus_field.proofs.stream.laws.default_unit_runs.Goals as goal

pub returns-clause-below : goal.returns-clause-below
returns-clause-below g c = λ unit. runs_below unit g.S.Answerer.answering

pub returns-clause-back : goal.returns-clause-back
returns-clause-back g c = λ unit. comes_of_below unit g.S.Answerer.answering
