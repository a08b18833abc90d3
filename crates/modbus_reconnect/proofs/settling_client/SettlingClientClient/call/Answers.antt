use Rattle.std.proofs.Common.{ℕ, ap, subst, sym, ◌∙◌}
use Rattle.modbus_link.specs.Line.{meaning_of}
use Rattle.modbus_frame.specs.Meaning.{meaning}
use Rattle.modbus_reconnect.specs.SettleState.{SettlingState, line_by}
use Rattle.modbus_reconnect.specs.OnLine.{AsksOn}
use Rattle.modbus_reconnect.proofs.Cleared.{calls_asked}
use Rattle.modbus_reconnect.proofs.settling_client.SettlingClientClient.call.Goals as goal

pub returns : goal.returns
returns g c =
    let m = line_by g.P.Protocol.protocol g.P.LineProtocol.silent g.P.Protocol.heading (meaning_of g.L.Ends.input g.L.Ends.output g.L.Ends.line) g.L.PolledLink.not_ready g.L.IdleLink.looks in
    calls_asked m c.args.self.now c.clear.new.self c.ask.new.self (meaning c.args.request) c.ask.result
    (sym (ap (λ (state : SettlingState g.row.P-Ids.Denot g.row.L.Denot). state.is_connected) c.self.view_is) ∙ c.if-not-self.false)
    c.if-not-clear.ensures
    (subst (λ (turns : ℕ). AsksOn m c.clear.new.self (meaning c.args.request) turns c.ask.result c.ask.new.self)
    (ap (λ (state : SettlingState g.row.P-Ids.Denot g.row.L.Denot). state.settings.turns) c.self-2.view_is) c.ask.ensures)
