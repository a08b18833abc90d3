use Rattle.modbus_rtu.proofs.Responses.{nothing_open, whole_of}
use Rattle.modbus_rtu.proofs.laws.responses_by_front.Goals as goal

pub returns-clause-end : goal.returns-clause-end
returns-clause-end c = nothing_open

pub returns-clause-whole : goal.returns-clause-whole
returns-clause-whole c = whole_of
