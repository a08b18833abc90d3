use Rattle.std.proofs.lemmas.Result.{err_from_is_err_and}
use Rattle.modbus_client.proofs.Asking.{sent_refused, unsent_dropping}
use Rattle.modbus_client.proofs.Polling.{exchanged_dropping}
use Rattle.modbus_client.proofs.drive.exchange.Goals as goal

pub returns-in_err-call-clause-exchanged : goal.returns-in_err-call-clause-exchanged
returns-in_err-call-clause-exchanged g c =
    let told = err_from_is_err_and c.from_residual.result c.from_residual.ensures.1 in
    rw (told.1, told.2)
    (unsent_dropping (Unit {0}) g.P.Protocol.protocol c.laws.ensures.opening _ _ _ _ _ _ _ _ c.in_err-call.field-0.0 c.laws.ensures.none_dropped
    (sent_refused (Unit {0}) g.P.Protocol.protocol _ _ _ c.open.ensures.empty _ _ c.in_err-call.field-0.0 c.in_err-call.ensures.opens.cause))

pub returns-clause-exchanged : goal.returns-clause-exchanged
returns-clause-exchanged g c =
    rw c.dropped.ensures (exchanged_dropping g.P.Protocol.protocol _ _ _ _ _ _ _ _ c.in-Ready.answer (rw c.in-Ready.is at c.poll-polled.ensures.polled) _ _ c.args.turns
    c.in_ok-call.ensures.opens.asks c.in_ok-call.ensures.opens.fits c.in_ok-call.ensures.opens.goes)
