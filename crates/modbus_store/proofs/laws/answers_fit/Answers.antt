use Rattle.modbus_store.proofs.Fitting.{store_fits}
use Rattle.modbus_store.proofs.laws.answers_fit.Goals as goal

pub returns : goal.returns
returns c = store_fits c.responses_have_sizes.ensures
