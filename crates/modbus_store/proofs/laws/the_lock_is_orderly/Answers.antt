use Rattle.modbus_store.proofs.Orderly.{orderly}
use Rattle.modbus_store.proofs.laws.the_lock_is_orderly.Goals as goal

pub returns : goal.returns
returns c = orderly
