use Rattle.modbus_tcp.proofs.Splitting.{some_splitting, same_splitting}
use Rattle.modbus_tcp.proofs.laws.one_splitting.Goals as goal

pub returns-clause-some : goal.returns-clause-some
returns-clause-some c = some_splitting

pub returns-clause-only : goal.returns-clause-only
returns-clause-only c = same_splitting
