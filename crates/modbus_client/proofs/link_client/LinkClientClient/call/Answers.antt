use Rattle.std.proofs.Common.{rules}
use Rattle.modbus_link.specs.Line.{meaning_of}
use Rattle.modbus_frame.specs.Meaning.{meaning}
use Rattle.modbus_client.specs.State.{next_header}
use Rattle.modbus_client.proofs.Asking.{Counted, counted}
use Rattle.modbus_client.proofs.Completing.{called_completes}
use Rattle.modbus_client.proofs.link_client.LinkClientClient.call.Goals as goal
use Rattle.modbus_link.specs.Outside.{outside}

pub returns-clause-called : goal.returns-clause-called
returns-clause-called g c =
    let found = counted g.P.Protocol.protocol _ _ _ _ _ _ _ _ c.exchange-answer.ensures.exchanged in
    let whole : Counted g.P.Protocol.protocol (outside (g.L.Ends.input c.args.self.now.link) (g.L.Ends.output c.args.self.now.link)) (outside (g.L.Ends.input c.exchange-answer.new.link) (g.L.Ends.output c.exchange-answer.new.link)) (next_header g.P.Protocol.heading c.args.self.now) (meaning c.args.request) c.args.self.now.turns c.exchange-answer.new.held.items c.exchange-answer.new.dropped c.exchange-answer.result = search (rules, found) in
    record {
      keeps = search rules;
      line = search rules;
      draws = search rules;
      disconnected = search rules;
      connected = search rules;
      ran = λ on. whole.ran;
      dropped = λ on. whole.counts;
    }

pub returns-clause-complete : goal.returns-clause-complete
returns-clause-complete g c = called_completes g.P.Protocol.protocol g.P.Protocol.heading c.laws.ensures.alone (meaning_of g.L.Ends.input g.L.Ends.output g.L.Ends.line) _ _ _ _ (returns-clause-called g c)
