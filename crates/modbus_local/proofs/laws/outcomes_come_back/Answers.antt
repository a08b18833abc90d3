use Rattle.std.proofs.Common.{[], ◌∷◌, length, subst, append-nil}
use Rattle.modbus_pdu.specs.RequestPdu.{request_pdu}
use Rattle.modbus_pdu.specs.Message.{message}
use Rattle.modbus_rtu.specs.Frame.{frame}
use Rattle.modbus_rtu.specs.Quiet.{IsQuietLine}
use Rattle.modbus_local.proofs.ResponseHeads.{response_has_head, exception_has_head}
use Rattle.modbus_local.proofs.AskedOnce.{asked_once}
use Rattle.modbus_local.proofs.Back.{readable, outcome_back}
use Rattle.modbus_local.proofs.Exchanged.{exchange_back}
use Rattle.modbus_local.proofs.laws.outcomes_come_back.Goals as goal

pub returns : goal.returns
returns g c = λ before after slave asked answer reads exchanges.
    exchange_back g.V.Answerer.answering before after slave asked answer
    (λ local of fits some.
    let pdu = request_pdu asked in
    let lines = c.quiet_lines.ensures in
    let quiet = subst (λ bytes. IsQuietLine bytes (message slave pdu ∷ [])) (append-nil (frame slave pdu)) (c.request_frames.ensures.quiet ((slave, asked) ∷ []) ((of, fits), tt)) in
    let once =
    asked_once lines.calm lines.next lines.used c.one_reading.ensures.only slave pdu asked (reads (readable asked of) fits) (frame slave pdu) (length (frame slave pdu) ∷ []) quiet
    g.V.Answerer.answering before after local.sent local.served local.only (λ wants. some (local.wanting wants)) local.server in (
      once.outcome,
      once.gave,
      outcome_back c.responses_by_front.ensures.end c.laws.ensures.alone c.own_results_are_told.ensures c.responses_read_back.ensures.result c.responses_read_back.ensures.exception
          (response_has_head c.responses_have_sizes.ensures) exception_has_head slave asked of local.held answer some once.outcome local.sent local.client once.wrote,
    ))
    exchanges
