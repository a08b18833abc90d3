use Rattle.std.proofs.Common.{arith}
use Rattle.modbus_tcp.proofs.Fronts.{told}
use Rattle.modbus_tcp.proofs.laws.adus_go_on.Goals as goal

pub returns-clause-size : goal.returns-clause-size
returns-clause-size c = λ bytes others message begins. let tells = told begins in omega (arith, tells.all)

pub returns-clause-fewer : goal.returns-clause-fewer
returns-clause-fewer c = λ bytes others message begins. let tells = told begins in omega (arith, tells.all)
