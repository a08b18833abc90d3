use Rattle.std.proofs.Common.{arith}
use Rattle.modbus_pdu.specs.ResponsePdu.{response_result_pdu}
use Rattle.modbus_ascii.proofs.Framing.{length-frame}
use Rattle.modbus_ascii.proofs.encoder.encode_response_frame.Goals as goal

pub returns-in_err-reserve-clause-memory : goal.returns-in_err-reserve-clause-memory
returns-in_err-reserve-clause-memory c = λ e.
    let size = c.in_ok-pdu_len.ensures.fits in
    let room = c.in_err-reserve.ensures.spare in
    omega (arith, length-frame c.args.slave (response_result_pdu c.args.answer.now), size.0, room)
