use Rattle.modbus_gateway.proofs.Guarding.{guarded_runs}
use Rattle.modbus_gateway.proofs.laws.only_what_is_allowed_is_sent.Goals as goal

pub returns : goal.returns
returns g c = guarded_runs g.C.Forwarder.forwarding
