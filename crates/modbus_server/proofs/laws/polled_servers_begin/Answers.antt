use Rattle.modbus_server.proofs.Polling.{begins}
use Rattle.modbus_server.proofs.laws.polled_servers_begin.Goals as goal

pub returns : goal.returns
returns g c = begins g.I.Framing.framing
