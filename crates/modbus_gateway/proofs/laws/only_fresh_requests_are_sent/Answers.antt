use Rattle.modbus_gateway.proofs.Passing.{passes}
use Rattle.modbus_gateway.proofs.laws.only_fresh_requests_are_sent.Goals as goal

pub returns : goal.returns
returns g c unit = passes unit g.C.Forwarder.forwarding
