use Rattle.std.proofs.Common.{IfSome, sym, subst}
use Rattle.modbus_pdu.specs.Encodes.{Fits}
use Rattle.modbus_pdu.specs.ResponsePdu.{response_pdu}
use Rattle.modbus_c.proofs.Placing.{fits_at}
use Rattle.modbus_c.proofs.place.ask_device.Goals as goal

pub returns-in-Ok-Some-clause-fits : goal.returns-in-Ok-Some-clause-fits
returns-in-Ok-Some-clause-fits c = subst (λ r. Fits (response_pdu r)) (sym c.response_at.ensures) (fits_at c.address_written.result c.in-Ok-Some.told
    (subst (λ f. IfSome f (λ r. Fits (response_pdu r))) c.in-Ok-Some.field-0-is c.in-Ok-Some.ensures.fits))
