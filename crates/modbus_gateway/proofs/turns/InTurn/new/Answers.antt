use Rattle.std.proofs.Common.{sym, subst}
use Rattle.modbus_gateway.specs.Timely.{TimelyState, timely_at_start, timely}
use Rattle.modbus_gateway.specs.Turns.{IsLed}
use Rattle.modbus_gateway.proofs.Leading.{led_by_none}
use Rattle.modbus_gateway.proofs.turns.InTurn.new.Goals as goal

pub invariant_of-result : goal.invariant_of-result
invariant_of-result g c =
    subst (λ (line : TimelyState g.row.C.Denot). IsLed g.J.Opening.opens (timely g.C.Forwarder.forwarding) c.args.turns.total line) (sym c.new.ensures)
    (led_by_none g.J.Opening.opens (timely g.C.Forwarder.forwarding) (timely_at_start c.args.line c.args.limit) c.args.turns.total c.requires.opens c.requires.none)
