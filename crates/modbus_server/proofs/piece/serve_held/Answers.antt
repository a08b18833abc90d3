use Rattle.std.proofs.Common.{rules, ◌≡◌, refl}
use Rattle.modbus_server.proofs.OnePiece.{going, silent_on, replied_on, unkept, refused_at, over, cut_off}
use Rattle.modbus_server.proofs.piece.serve_held.Goals as goal

pub messages-init : goal.messages-init
messages-init g c = going g.I.Framing.framing g.V.Answerer.answering c.args.service.now c.args.connection.now.held c.args.replies.now.items c.args.connection.now refl c.requires.written c.requires.open

pub returns-in-Err : goal.returns-in-Err
returns-in-Err g c =
    rw c.tell_next.ensures.told (refused_at g.I.Framing.framing g.V.Answerer.answering _ _ _ g.I.Framing.told c.messages.service c.next.new.service _ c.messages.connection c.next.new.self c.messages.invariant c.in-Err.error c.tell_next.ensures.own c.in-Err.ensures)

pub messages-preserved-in-Ok-Silent : goal.messages-preserved-in-Ok-Silent
messages-preserved-in-Ok-Silent g c =
    silent_on g.I.Framing.framing g.V.Answerer.answering _ _ _ g.I.Framing.told c.messages.service c.next.new.service _ c.messages.connection c.next.new.self c.messages.invariant (rw c.in-Ok-Silent.field-0-is at c.in-Ok-Silent.ensures)

pub returns-then-is_err : goal.returns-then-is_err
returns-then-is_err g c =
    let same : c.keep_reply.new.replies.items ≡ c.messages.replies.items = search rules in
    unkept g.I.Framing.framing g.V.Answerer.answering _ _ _ g.I.Framing.told c.messages.service c.next.new.service _ c.messages.connection c.next.new.self c.messages.invariant _ same (rw c.in-Ok-Reply.field-0-is at c.in-Ok-Reply.ensures)

pub messages-preserved : goal.messages-preserved
messages-preserved g c =
    replied_on g.I.Framing.framing g.V.Answerer.answering _ _ _ g.I.Framing.told c.messages.service c.next.new.service _ c.messages.connection c.next.new.self c.messages.invariant _ _ (search rules) (search rules) (rw c.in-Ok-Reply.field-0-is at c.in-Ok-Reply.ensures)

pub returns-then-end : goal.returns-then-end
returns-then-end g c =
    over g.I.Framing.framing g.V.Answerer.answering _ _ _ g.I.Framing.told c.messages.service c.next.new.service _ c.messages.connection c.next.new.self c.messages.invariant (rw c.in-Ok-Waiting.field-0-is at c.in-Ok-Waiting.ensures) (c.end.ensures.empty.0 c.if-end.true)

pub returns-in-Ok-Waiting : goal.returns-in-Ok-Waiting
returns-in-Ok-Waiting g c =
    cut_off g.I.Framing.framing g.V.Answerer.answering _ _ _ g.I.Framing.told c.messages.service c.next.new.service _ c.messages.connection c.next.new.self c.messages.invariant (rw c.in-Ok-Waiting.field-0-is at c.in-Ok-Waiting.ensures) (λ e. absurd (cc (c.if-end.false, c.end.ensures.empty.1 e)))
