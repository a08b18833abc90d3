use Rattle.std.proofs.Common.{◌∷◌, ◌++◌, ◌∙◌, [], length, ap, arith, length-append}
use Rattle.modbus_ascii.specs.Encoder.{text_of}
use Rattle.modbus_ascii.specs.Limits.{colon, carriage_return, line_feed}
use Rattle.modbus_ascii.proofs.Framing.{frame-pieces, length-text_of}
use Rattle.modbus_ascii.proofs.encoder.put_frame.Goals as goal

pub returns-clause-items : goal.returns-clause-items
returns-clause-items c =
    let e = frame-pieces c.args.buf.now.items c.extend_reserved.new.self.items c.put_text.new.buf.items c.put_text-2.new.buf.items c.extend_reserved-2.new.self.items c.args.bytes.now c.lrc-sum.result
    c.extend_reserved.ensures.items c.put_text.ensures.items c.put_text-2.ensures.items c.extend_reserved-2.ensures.items in
    e ∙ ap (λ sum. c.args.buf.now.items ++ (colon ∷ text_of (c.args.bytes.now ++ sum ∷ []) ++ carriage_return ∷ line_feed ∷ [])) c.lrc-sum.ensures

pub returns-clause-room : goal.returns-clause-room
returns-clause-room c =
    let one = ap length c.extend_reserved.ensures.items ∙ length-append c.args.buf.now.items (colon ∷ []) in
    let two = ap length c.put_text.ensures.items ∙ length-append c.extend_reserved.new.self.items (text_of c.args.bytes.now) in
    let three = ap length c.put_text-2.ensures.items ∙ length-append c.put_text.new.buf.items (text_of (c.lrc-sum.result ∷ [])) in
    let four = ap length c.extend_reserved-2.ensures.items ∙ length-append c.put_text-2.new.buf.items (carriage_return ∷ line_feed ∷ []) in
    omega (arith, one, two, three, four, length-text_of c.args.bytes.now, length-text_of (c.lrc-sum.result ∷ []))
