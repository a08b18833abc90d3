use Rattle.modbus_rules.proofs.Restricting.{restricted_runs}
use Rattle.modbus_rules.proofs.laws.only_what_is_allowed_is_asked.Goals as goal

pub returns : goal.returns
returns g c = restricted_runs g.S.Service.answers g.S.Service.takes_memory
