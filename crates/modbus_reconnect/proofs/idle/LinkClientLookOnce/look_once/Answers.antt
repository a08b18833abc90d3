use Rattle.std.proofs.Common.{sym, ◌∙◌}
use Rattle.modbus_link.specs.Line.{meaning_of}
use Rattle.modbus_reconnect.proofs.FoundIdle.{looked_kept, looked_given_up}
use Rattle.modbus_reconnect.proofs.idle.LinkClientLookOnce.look_once.Goals as goal

pub returns-then-is_idle : goal.returns-then-is_idle
returns-then-is_idle g c =
    let found = c.look_at_client-found.ensures in
    looked_kept (meaning_of g.L.Ends.input g.L.Ends.output g.L.Ends.line) g.L.IdleLink.looks c.args.self c.look_at_client-found.new.client c.look_at_client-found.result
    (record { drops = found.drops; sink = found.sink; line = found.line }) found.rest (sym c.is_idle.ensures ∙ c.if-is_idle.true)

pub returns : goal.returns
returns g c =
    let found = c.look_at_client-found.ensures in
    looked_given_up (meaning_of g.L.Ends.input g.L.Ends.output g.L.Ends.line) g.L.IdleLink.looks c.args.self c.look_at_client-found.new.client c.look_at_client-found.result
    (record { drops = found.drops; sink = found.sink; line = found.line }) found.rest (sym c.is_idle.ensures ∙ c.if-is_idle.false)
    (record { result = c.disconnect.result; gone = c.disconnect.new.self; disconnected = c.disconnect.ensures })
