use Rattle.modbus_client.proofs.Completing.{judged_result}
use Rattle.modbus_client.proofs.laws.own_results_are_told.Goals as goal

pub returns : goal.returns
returns c = judged_result
