use Rattle.modbus_diagnostics.proofs.Runs.{runs_noted, journal_is}
use Rattle.modbus_diagnostics.proofs.laws.runs_are_noted.Goals as goal

pub returns-clause-notes : goal.returns-clause-notes
returns-clause-notes g c = λ slave. runs_noted slave g.S.Answerer.answering

pub returns-clause-journal : goal.returns-clause-journal
returns-clause-journal g c = λ slave. journal_is slave g.S.Answerer.answering
