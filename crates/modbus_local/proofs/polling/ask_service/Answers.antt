use Rattle.std.proofs.Common.{subst}
use Rattle.modbus_client.specs.Matches.{Answer}
use Rattle.modbus_local.specs.Back.{ComesBack}
use Rattle.modbus_local.specs.Exchange.{ExchangesLocally}
use Rattle.modbus_poll.specs.Polls.{request_for}
use Rattle.modbus_local.proofs.Served.{request_fits, registers_alone}
use Rattle.modbus_local.proofs.polling.ask_service.Goals as goal

pub as_words-requires : goal.as_words-requires
as_words-requires g c =
    registers_alone g.V.Answerer.answering c.args.service.now c.exchange.new.service c.args.slave.0 c.args.read.now c.exchange.result
    (request_fits c.requests_have_sizes.ensures c.args.read.now) c.exchange.ensures.exchanges

pub returns : goal.returns
returns g c = record {
  exchanges = subst (λ (a : Answer). ExchangesLocally g.V.Answerer.answering c.args.service.now c.exchange.new.service c.args.slave.0 (request_for c.args.read.now) a) c.as_words.ensures c.exchange.ensures.exchanges;
  comes_back = subst (λ (a : Answer). ComesBack g.V.Answerer.answering c.args.service.now c.exchange.new.service c.args.slave.0 (request_for c.args.read.now) a) c.as_words.ensures c.exchange.ensures.comes_back;
}
