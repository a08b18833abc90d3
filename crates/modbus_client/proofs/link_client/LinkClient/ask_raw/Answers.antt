use Rattle.std.proofs.Common.{rules}
use Rattle.modbus_link.specs.Outside.{outside}
use Rattle.modbus_frame.specs.Meaning.{meaning}
use Rattle.modbus_client.specs.Raw.{read_raw}
use Rattle.modbus_client.specs.State.{next_header}
use Rattle.modbus_client.proofs.Asking.{Counted, counted}
use Rattle.modbus_client.proofs.link_client.LinkClient.ask_raw.Goals as goal

pub returns : goal.returns
returns g c =
    let found = counted (read_raw g.P.Protocol.protocol) _ _ _ _ _ _ _ _ c.exchange-answer.ensures.exchanged in
    let whole : Counted (read_raw g.P.Protocol.protocol) (outside (g.L.Ends.input c.args.self.now.link) (g.L.Ends.output c.args.self.now.link)) (outside (g.L.Ends.input c.exchange-answer.new.link) (g.L.Ends.output c.exchange-answer.new.link)) (next_header g.P.Protocol.heading c.args.self.now) (meaning c.args.request.now) c.args.self.now.turns c.exchange-answer.new.held.items c.exchange-answer.new.dropped c.exchange-answer.result = search (rules, found) in
    record {
      keeps = search rules;
      line = search rules;
      draws = search rules;
      disconnected = search rules;
      connected = search rules;
      ran = λ on. whole.ran;
      dropped = λ on. whole.counts;
    }
