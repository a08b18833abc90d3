use Rattle.std.proofs.Common.{length, ap, arith}
use Rattle.modbus_frame.specs.Meaning.{Asked}
use Rattle.modbus_pdu.specs.RequestPdu.{request_pdu}
use Rattle.modbus_app.proofs.Making.{size_made}
use Rattle.modbus_app.proofs.make.push_frame.Goals as goal

pub unreachable-requires : goal.unreachable-requires
unreachable-requires c =
    let refused = rw c.in-Err-TooLong.field-0-is at c.in-Err-TooLong.ensures.encodes.cause in
    omega (arith, refused.0, size_made c.requests_have_sizes.ensures c.args.x, ap (λ (r : Asked). length (request_pdu r)) c.request_by.ensures)
