use Rattle.modbus_device.proofs.Echoes.{drops, gives}
use Rattle.modbus_device.proofs.laws.own_replies_are_taken_off.Goals as goal

pub returns-clause-drops : goal.returns-clause-drops
returns-clause-drops g c = drops g.L.Ends.input

pub returns-clause-gives : goal.returns-clause-gives
returns-clause-gives g c = gives g.L.Ends.input
