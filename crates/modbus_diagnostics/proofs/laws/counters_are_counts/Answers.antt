use Rattle.modbus_diagnostics.proofs.Runs.{counts_all, tells_notes}
use Rattle.modbus_diagnostics.proofs.laws.counters_are_counts.Goals as goal

pub returns-clause-counts : goal.returns-clause-counts
returns-clause-counts g c = λ slave. counts_all slave g.S.Answerer.answering

pub returns-clause-told : goal.returns-clause-told
returns-clause-told g c = λ slave. tells_notes slave g.S.Answerer.answering
