use Rattle.std.proofs.Common.{subst}
use Rattle.modbus_frame.specs.Meaning.{meaning}
use Rattle.modbus_gateway.specs.Timely.{timely}
use Rattle.modbus_gateway.specs.Turns.{TurnState, IsLed}
use Rattle.modbus_gateway.proofs.Leading.{led_on}
use Rattle.modbus_gateway.proofs.turns.InTurn.exchange.Goals as goal

pub invariant_of-self : goal.invariant_of-self
invariant_of-self g c =
    led_on g.J.Opening.opens (timely g.C.Forwarder.forwarding) c.self.inside.turns.total c.add.new.self.total c.self.inside.line c.forward_in_time-answer.new.self
    c.args.request.slave (meaning c.args.request.request) c.forward_in_time-answer.result c.self.invariant c.forward_in_time-answer.ensures.keeps c.add.ensures.total

-- before the turn the line is where whole turns had led it
pub returns-clause-led : goal.returns-clause-led
returns-clause-led g c = subst (λ (it : TurnState g.row.C.Denot). IsLed g.J.Opening.opens (timely g.C.Forwarder.forwarding) it.turns it.line) c.self.view_is c.self.invariant
