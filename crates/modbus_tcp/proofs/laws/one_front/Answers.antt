use Rattle.modbus_tcp.proofs.Fronts.{front_of, same_adu, no_rest}
use Rattle.modbus_tcp.proofs.laws.one_front.Goals as goal

pub returns-clause-some : goal.returns-clause-some
returns-clause-some c = front_of

pub returns-clause-adu : goal.returns-clause-adu
returns-clause-adu c = λ bytes others left message other begins again. same_adu begins again

pub returns-clause-apart : goal.returns-clause-apart
returns-clause-apart c = λ bytes others message kind begins is. no_rest kind begins is
