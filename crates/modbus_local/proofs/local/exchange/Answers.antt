use Rattle.std.proofs.Common.{rules, ◌≡◌, length, sym, ap, ◌∙◌, subst, arith}
use Rattle.modbus_frame.specs.Meaning.{meaning}
use Rattle.modbus_pdu.specs.RequestPdu.{request_pdu}
use Rattle.modbus_rtu.specs.Frame.{frame}
use Rattle.modbus_server.specs.Rtu.{rtu}
use Rattle.modbus_server.specs.Piece.{ServedPiece}
use Rattle.modbus_local.specs.Exchange.{ExchangesLocally}
use Rattle.modbus_client.specs.Rtu.{slave_seen}
use Rattle.modbus_local.proofs.Exchanged.{length-frame, exchange_unserved}
use Rattle.modbus_local.proofs.local.exchange.Goals as goal

pub serve_piece-served-requires-clause-some : goal.serve_piece-served-requires-clause-some
serve_piece-served-requires-clause-some g c =
    let is : c.to_write.result.now ≡ frame c.args.slave.0 (request_pdu (meaning c.args.request)) = c.to_write.ensures ∙ sym c.in-Ok.ensures.opens.stands.wrote ∙ c.in-Ok.ensures.opens.asks.request in
    omega (arith, ap length is, length-frame c.args.slave.0 (request_pdu (meaning c.args.request)))

pub serve_piece-served-requires-clause-fits : goal.serve_piece-served-requires-clause-fits
serve_piece-served-requires-clause-fits g c =
    let is : c.to_write.result.now ≡ frame c.args.slave.0 (request_pdu (meaning c.args.request)) = c.to_write.ensures ∙ sym c.in-Ok.ensures.opens.stands.wrote ∙ c.in-Ok.ensures.opens.asks.request in
    omega (arith, ap length is, length-frame c.args.slave.0 (request_pdu (meaning c.args.request)), c.in-Ok.ensures.opens.fits)

pub returns-then-lacked_memory-clause-exchanges : goal.returns-then-lacked_memory-clause-exchanges
returns-then-lacked_memory-clause-exchanges g c =
    let is : c.to_write.result.now ≡ frame c.args.slave.0 (request_pdu (meaning c.args.request)) = c.to_write.ensures ∙ sym c.in-Ok.ensures.opens.stands.wrote ∙ c.in-Ok.ensures.opens.asks.request in
    exchange_unserved g.V.Answerer.answering c.args.slave.0 (meaning c.args.request) c.args.service.now c.serve_piece-served.new.service c.in-Ok.ensures.opens.fits (c.laws.ensures.opening (slave_seen c.args.slave.0)) c.new-replies.result.items c.serve_piece-served.new.replies.items c.serve_piece-served.result
    (subst (λ p. ServedPiece rtu g.V.Answerer.answering p c.args.service.now c.serve_piece-served.new.service c.new-replies.result.items c.serve_piece-served.new.replies.items c.serve_piece-served.result) is c.serve_piece-served.ensures.served)
    (c.lacked_memory.ensures.0 c.if-lacked_memory.true)

pub returns-clause-comes_back : goal.returns-clause-comes_back
returns-clause-comes_back g c =
    let whole : ExchangesLocally g.V.Answerer.answering c.args.service.now c.serve_piece-served.new.service c.args.slave.0 (meaning c.args.request) c.receive_all.result = search rules in
    c.outcomes_come_back.ensures c.args.service.now c.serve_piece-served.new.service c.args.slave.0 (meaning c.args.request) c.receive_all.result c.request_reads_back.ensures whole
