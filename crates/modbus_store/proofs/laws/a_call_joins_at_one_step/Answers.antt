use Rattle.modbus_store.proofs.Passing.{adds_call, leaves_history}
use Rattle.modbus_store.proofs.laws.a_call_joins_at_one_step.Goals as goal

pub returns-clause-counts : goal.returns-clause-counts
returns-clause-counts c = adds_call

pub returns-clause-others : goal.returns-clause-others
returns-clause-others c = leaves_history
