use Rattle.std.proofs.Common.{subst}
use Rattle.modbus_pdu.specs.Message.{message}
use Rattle.modbus_c.specs.Pieces.{AnswersPiece}
use Rattle.modbus_c.proofs.Answering.{piece_answered}
use Rattle.modbus_c.proofs.stream.serve_piece.Goals as goal

pub returns-in-Ok-Some-tell : goal.returns-in-Ok-Some-tell
returns-in-Ok-Some-tell g c =
    let written = c.adu_into-written.result in let output = c.adu_into-written.new.output in
    let old = c.args.device.now in let new = c.tell.new.device in let answer = c.in-Ok-Some-tell.answer in
    let told = rw c.in-Ok-Some-tell.field-0-is at c.in-Ok-Some-tell.ensures in
    let it = message c.message_in.result.0 c.message_in.result.1.now in
    let answered = piece_answered g.D.Device.tells it answer old new c.args.output.now output written c.requires told.named told.fits told.tells
    c.adu_into-written.ensures.put c.adu_into-written.ensures.size in
    record {
      serves = (
        rw c.in-Ok-Some.field-0-is at c.in-Ok-Some.ensures,
        answered.0,
        subst (λ m. AnswersPiece g.D.Device.tells m old c.args.output.now written output new) c.message_in.ensures answered.1,
      );
    }
