use Rattle.std.proofs.Common.{ap, sym, ◌∙◌, Bool}
use Rattle.modbus_link.specs.Line.{meaning_of}
use Rattle.modbus_frame.specs.Meaning.{meaning}
use Rattle.modbus_reconnect.specs.SettleState.{SettlingState, line_by}
use Rattle.modbus_reconnect.proofs.Told.{sends_told}
use Rattle.modbus_reconnect.proofs.settling_client.SettlingClient.send.Goals as goal

pub returns : goal.returns
returns g c =
    sends_told (line_by g.P.Protocol.protocol g.P.LineProtocol.silent g.P.Protocol.heading (meaning_of g.L.Ends.input g.L.Ends.output g.L.Ends.line) g.L.PolledLink.not_ready g.L.IdleLink.looks)
    c.args.self.now c.clear.new.self c.ask-answer.new.self _ (meaning c.args.request) c.ask-answer.result c.told_of-told.result
    (sym (ap (λ (state : SettlingState g.row.P-Ids.Denot g.row.L.Denot). state.is_connected) c.self.view_is) ∙ c.if-not-self.false)
    c.if-not-clear.ensures c.ask-answer.ensures c.told_of-told.ensures
    (ap (λ (state : SettlingState g.row.P-Ids.Denot g.row.L.Denot). record state { is_turning = c.is_sent-self-inside.result }) c.self-2.view_is
    ∙ ap (λ (turning : Bool). record c.ask-answer.new.self { is_turning = turning }) c.is_sent-self-inside.ensures)
