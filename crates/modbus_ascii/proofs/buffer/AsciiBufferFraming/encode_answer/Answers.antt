use Rattle.modbus_ascii.proofs.Framing.{frame_room}
use Rattle.modbus_ascii.proofs.buffer.AsciiBufferFraming.encode_answer.Goals as goal

pub returns-clause-memory : goal.returns-clause-memory
returns-clause-memory c =
    frame_room c.args.header c.args.reply.now.spare _ c.args.reply.now.items _ c.encode_response_frame.result c.encode_response_frame.ensures.encodes
    c.encode_response_frame.ensures.memory
