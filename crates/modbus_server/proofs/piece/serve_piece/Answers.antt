use Rattle.std.proofs.Common.{rules, ◌≡◌, [], inl, inr, refl}
use Rattle.modbus_server.proofs.Completing.{completes_piece}
use Rattle.modbus_server.proofs.OnePiece.{unopened, piece_served}
use Rattle.modbus_server.proofs.piece.serve_piece.Goals as goal

pub returns-in_default-clause-served : goal.returns-in_default-clause-served
returns-in_default-clause-served g c = unopened g.I.Framing.framing g.V.Answerer.answering c.args.service.now c.args.piece.now c.args.replies.now.items

pub returns-in_default-clause-complete : goal.returns-in_default-clause-complete
returns-in_default-clause-complete g c = λ line fit. inr (inl refl)

pub returns-then-is_err-clause-served : goal.returns-then-is_err-clause-served
returns-then-is_err-clause-served g c = unopened g.I.Framing.framing g.V.Answerer.answering c.args.service.now c.args.piece.now c.args.replies.now.items

pub returns-then-is_err-clause-complete : goal.returns-then-is_err-clause-complete
returns-then-is_err-clause-complete g c = λ line fit. inr (inl refl)

pub returns-clause-served : goal.returns-clause-served
returns-clause-served g c =
    let empty : c.make_room.new.self.held ≡ [] = search rules in
    piece_served g.I.Framing.framing g.V.Answerer.answering c.args.service.now c.args.piece.now c.args.replies.now.items c.serve_held.new.service c.serve_held.new.replies.items c.make_room.new.self c.feed.new.self c.serve_held.result
    c.in-Ok.ensures.stands empty c.feed.ensures.fed c.requires.some c.serve_held.ensures

pub returns-clause-complete : goal.returns-clause-complete
returns-clause-complete g c =
    completes_piece g.I.Framing.framing c.laws.ensures.calm c.laws.ensures.next c.laws.ensures.used g.V.Answerer.answering c.args.service.now c.serve_held.new.service c.args.piece.now
    c.args.replies.now.items c.serve_held.new.replies.items c.serve_held.result (returns-clause-served g c)
