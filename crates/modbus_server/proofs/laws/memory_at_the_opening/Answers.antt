use Rattle.modbus_server.proofs.AtOpening.{nothing_done}
use Rattle.modbus_server.proofs.laws.memory_at_the_opening.Goals as goal

pub returns : goal.returns
returns g c = nothing_done g.V.Answerer.answering
