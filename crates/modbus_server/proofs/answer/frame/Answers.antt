use Rattle.modbus_server.proofs.Answering.{frames_as}
use Rattle.modbus_server.proofs.answer.frame.Goals as goal

pub returns-in-Ok-clause-frames : goal.returns-in-Ok-clause-frames
returns-in-Ok-clause-frames g c =
    frames_as g.I.Framing.framing g.row.I-Fault.Denot (g.I.Framing.header_of c.args.header) c.args.answer.now c.args.reply.now.items c.encode_answer.new.reply.items
    c.in-Ok.ensures.encodes c.requires.empty
