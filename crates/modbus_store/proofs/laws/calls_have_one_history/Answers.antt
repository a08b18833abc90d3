use Rattle.modbus_store.proofs.Orderly.{one_history, no_other_history}
use Rattle.modbus_store.proofs.laws.calls_have_one_history.Goals as goal

pub returns-clause-is_there : goal.returns-clause-is_there
returns-clause-is_there c = one_history

pub returns-clause-is_one : goal.returns-clause-is_one
returns-clause-is_one c = no_other_history
