use Rattle.std.proofs.Common.{ℕ, List, Option, ◌++◌, ◌∷◌, [], Ok, drop, subst, sym}
use Rattle.modbus_frame.specs.declared.tcp.Header.{Header}
use Rattle.modbus_pdu.specs.Message.{Message, message}
use Rattle.modbus_field.specs.Pieces.{FindsPiece, AreMessages}
use Rattle.modbus_field.proofs.StreamPieces.{one_more}
use Rattle.modbus_field.proofs.stream.buffer.StreamBufferFraming.front.Goals as goal

pub returns-in-Ok-Some-clause-finds : goal.returns-in-Ok-Some-clause-finds
returns-in-Ok-Some-clause-finds c = λ bytes cuts taken are.
    let held = c.args.self.now in
    let end = c.in-Ok-Some.end in
    let found = subst (λ (b : List ℕ). FindsPiece b (Ok c.in-Ok-Some.field-0)) (c.bytes_held-held.ensures) c.in-Ok-Some.ensures in
    let whole = (subst (λ (o : Option ℕ). FindsPiece held (Ok o)) c.in-Ok-Some.field-0-is found).2 in
    let more = one_more bytes held end taken are whole in
    let same = rw (c.bytes_held-held.ensures) at c.message_in.ensures in
    let is : AreMessages bytes (drop end held) (taken ++ message c.message_in.result.0 c.message_in.result.1.now ∷ []) =
    subst (λ (m : Message Header). AreMessages bytes (drop end held) (taken ++ m ∷ [])) (sym same) more in
    (is, (drop end held, is))
