use Rattle.std.proofs.Common.{[], ◌∷◌, ◌++◌, drop, refl, subst, sym, List, ℕ}
use Rattle.modbus_pdu.specs.Message.{message}
use Rattle.modbus_server.specs.Served.{HasTakenAll, broken}
use Rattle.modbus_server.proofs.Standing.{none_on, halted_on, kept, takes_on, next_takes}
use Rattle.modbus_server.proofs.connection.take_next.Goals as goal

pub returns-in-Err-clause-takes : goal.returns-in-Err-clause-takes
returns-in-Err-clause-takes g c = record {
  fresh = [];
  ends = c.args.service.now;
  run = refl;
  asked = refl;
  stands = λ behind s.
      halted_on g.I.Framing.framing g.V.Answerer.answering behind (g.I.Framing.held c.args.intake.now) s
      (broken (g.I.Framing.told c.in-Err.fault)) c.args.service.now c.args.service.now (c.in-Err.ensures.finds behind.bytes behind.cuts s.taken s.stands, refl);
}

pub returns-in-Ok-Waiting-clause-takes : goal.returns-in-Ok-Waiting-clause-takes
returns-in-Ok-Waiting-clause-takes g c = record {
  fresh = [];
  ends = c.args.service.now;
  run = refl;
  asked = (refl, refl);
  stands = λ behind s.
      let after = (rw c.in-Ok-Waiting.field-0-is at c.in-Ok-Waiting.ensures.finds) behind.bytes behind.cuts s.taken s.stands in
      let F = g.I.Framing.framing in
      none_on F (λ b. HasTakenAll F b (g.I.Framing.held c.advance.new.self) []) behind
      (subst (λ (held : List ℕ). HasTakenAll F behind held []) (sym c.advance.ensures)
      (kept F behind (g.I.Framing.held c.args.intake.now) (drop c.in-Ok-Waiting.dropped (g.I.Framing.held c.args.intake.now)) [] s after.0, after.1));
}

pub returns-in-Ok-Message-clause-takes : goal.returns-in-Ok-Message-clause-takes
returns-in-Ok-Message-clause-takes g c =
    let F = g.I.Framing.framing in
    let next = message (g.I.Framing.header_of c.in-Ok-Message.header) c.in-Ok-Message.pdu.now in
    takes_on F g.V.Answerer.answering g.I.Framing.told next (g.I.Framing.held c.args.intake.now) (g.I.Framing.held c.advance-in-Ok-Message.new.self) c.args.service.now c.answer-answer.new.service
    c.answer-answer.new.reply.items
    (λ bytes cuts taken s.
    let after = (rw c.in-Ok-Message.field-0-is at c.in-Ok-Message.ensures.finds) bytes cuts taken s in
    (subst (λ (held : List ℕ). F.StandsFor bytes cuts held (taken ++ next ∷ [])) (sym c.advance-in-Ok-Message.ensures) after.0, after.1))
    c.answer-answer.result c.answer-answer.ensures.answers

pub returns-in-Ok-Message-clause-memory : goal.returns-in-Ok-Message-clause-memory
returns-in-Ok-Message-clause-memory g c = λ e bytes cuts taken s.
    let after = (rw c.in-Ok-Message.field-0-is at c.in-Ok-Message.ensures.finds) bytes cuts taken s in
    next_takes g.I.Framing.framing g.V.Answerer.answering (message (g.I.Framing.header_of c.in-Ok-Message.header) c.in-Ok-Message.pdu.now) c.args.service.now c.answer-answer.new.service
    c.answer-answer.new.reply.items bytes cuts taken c.answer-answer.result c.answer-answer.ensures.answers after.1 e
