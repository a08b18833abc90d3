use Rattle.modbus_client.proofs.OwnAdu.{no_mismatch}
use Rattle.modbus_client.proofs.laws.matching_answers_are_own.Goals as goal

pub returns : goal.returns
returns c = no_mismatch
