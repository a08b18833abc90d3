use Rattle.std.proofs.Common.{length, List, ℕ, arith}
use Rattle.modbus_pdu.specs.ResponsePdu.{response_result_pdu}
use Rattle.modbus_ascii.specs.Encoder.{frame}
use Rattle.modbus_c.proofs.Replying.{text_len, no_error, has_room}
use Rattle.modbus_c.proofs.ascii.text_into.Goals as goal

pub put_front-requires : goal.put_front-requires
put_front-requires c =
    let P : List ℕ = response_result_pdu c.args.answer.now in
    has_room c.as_slice.result.now c.encode_response_frame.new.buf.items c.args.made.items (frame c.args.slave P) (length c.args.output.now)
    c.as_slice.ensures c.in-Ok.ensures.encodes.ok c.requires.no_bytes (omega (arith, text_len c.args.slave P, c.requires.fits, c.requires.room))

pub unreachable-requires : goal.unreachable-requires
unreachable-requires c =
    let P : List ℕ = response_result_pdu c.args.answer.now in
    no_error (frame c.args.slave P) P c.args.made.items c.encode_response_frame.new.buf.items c.args.made.spare c.encode_response_frame.result c.in-Err.field-0
    c.in-Err.is c.encode_response_frame.ensures.encodes c.requires.fits (omega (arith, text_len c.args.slave P, c.requires.fits, c.requires.space)) c.encode_response_frame.ensures.memory
