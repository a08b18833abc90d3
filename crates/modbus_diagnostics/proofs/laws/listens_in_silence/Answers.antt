use Rattle.modbus_diagnostics.proofs.Runs.{listens_on}
use Rattle.modbus_diagnostics.proofs.laws.listens_in_silence.Goals as goal

pub returns : goal.returns
returns g c = λ slave. listens_on slave g.S.Answerer.answering
