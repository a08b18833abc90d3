use Rattle.std.proofs.Common.{ap, sym, ◌∙◌}
use Rattle.modbus_link.specs.Line.{meaning_of}
use Rattle.modbus_frame.specs.Meaning.{Custom}
use Rattle.modbus_reconnect.specs.SettleState.{SettlingState, line_by}
use Rattle.modbus_reconnect.proofs.Cleared.{calls_raw}
use Rattle.modbus_reconnect.proofs.settling_client.SettlingClient.call_raw.Goals as goal

pub returns : goal.returns
returns g c =
    let m = line_by g.P.Protocol.protocol g.P.LineProtocol.silent g.P.Protocol.heading (meaning_of g.L.Ends.input g.L.Ends.output g.L.Ends.line) g.L.PolledLink.not_ready g.L.IdleLink.looks in
    calls_raw m c.args.self.now c.clear.new.self c.ask_raw.new.self (Custom c.args.function c.args.data.now) c.ask_raw.result
    (sym (ap (λ (state : SettlingState g.row.P-Ids.Denot g.row.L.Denot). state.is_connected) c.self.view_is) ∙ c.if-not-self.false)
    c.if-not-clear.ensures
    c.ask_raw.ensures
