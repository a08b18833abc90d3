use Rattle.std.proofs.lemmas.Result.{err_from_is_err_and}
use Rattle.modbus_client.proofs.Asking.{sent_refused}
use Rattle.modbus_client.proofs.drive.send.Goals as goal

pub returns-in_err-call-clause-sent : goal.returns-in_err-call-clause-sent
returns-in_err-call-clause-sent g c =
    let told = err_from_is_err_and c.from_residual.result c.from_residual.ensures.1 in
    rw (told.1, told.2) (sent_refused _ g.P.Protocol.protocol _ _ _ c.open.ensures.empty _ _ c.in_err-call.field-0.0 c.in_err-call.ensures.opens.cause)
