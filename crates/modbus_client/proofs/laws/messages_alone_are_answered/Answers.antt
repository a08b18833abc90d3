use Rattle.modbus_client.proofs.Completing.{completes}
use Rattle.modbus_client.proofs.laws.messages_alone_are_answered.Goals as goal

pub returns : goal.returns
returns g c = λ from to sunk sinks header asked turns held answer ran fits told no_read no_write pdu result whole means of left short.
    completes g.P.Protocol.protocol c.laws.ensures.alone from to sunk sinks header asked turns held fits told no_read no_write pdu result whole means of left short answer ran
