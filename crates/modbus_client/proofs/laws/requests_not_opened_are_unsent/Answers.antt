use Rattle.std.proofs.Common.{refl, []}
use Rattle.modbus_client.proofs.Asking.{sent_refused, exchanged_unsent}
use Rattle.modbus_client.proofs.laws.requests_not_opened_are_unsent.Goals as goal

pub returns : goal.returns
returns g c = λ from sunk header asked turns error refused.
    exchanged_unsent (Unit {0}) g.P.Protocol.protocol c.laws.ensures.opening from from sunk sunk header asked turns [] error
    (sent_refused (Unit {0}) g.P.Protocol.protocol header asked [] refl from sunk error refused)
