use Rattle.modbus_port.proofs.GivingServed.{gives_served}
use Rattle.modbus_port.proofs.laws.links_are_of_served_peers.Goals as goal

pub returns : goal.returns
returns c = gives_served
