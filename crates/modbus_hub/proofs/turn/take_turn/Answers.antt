use Rattle.std.specs.Prelude.{nat_lt}
use Rattle.std.proofs.Common.{rules, refl, inl, inr, ◌<◌}
use Rattle.modbus_link.specs.Line.{meaning_of}
use Rattle.modbus_hub.specs.declared.turn.Turn.TheVariants.{Waiting, Spent, Over}
use Rattle.modbus_hub.specs.Turn.{GaveIfTold, TakesTurn}
use Rattle.modbus_hub.proofs.Rationing.{gives_told, keeps_within}
use Rattle.modbus_hub.proofs.Turning.{moved, waits, is_spent, is_over}
use Rattle.modbus_hub.proofs.turn.take_turn.Goals as goal

pub returns-in-Over-clause-turn : goal.returns-in-Over-clause-turn
returns-in-Over-clause-turn g c =
    let meaning = meaning_of g.L.Ends.input g.L.Ends.output g.L.Ends.line in
    let lent = c.new-rationed.result in
    let left = c.poll_turn-answer.new.link in
    let poll = c.in-Over.ensures.turn in
    moved (λ a b. TakesTurn g.I.Framing.framing g.V.Answerer.answering meaning c.args.limits (record { link = a; process = c.args.process.now }) (record { link = b; process = c.poll_turn-answer.new.self })
    c.args.service.now c.poll_turn-answer.new.service (Over c.in-Over.result))
    lent.link.now _ left.link.now _ (search rules) (search rules)
    (is_over g.I.Framing.framing g.V.Answerer.answering meaning (record { link = lent.link.now; process = c.args.process.now })
    (record { link = left.link.now; process = c.poll_turn-answer.new.self }) c.args.service.now c.poll_turn-answer.new.service
    _ _ _ _ _ _ _ _ c.polled_lines_are_served.ensures c.args.limits c.in-Over.result poll.polls
    (keeps_within meaning c.args.limits lent.link.now left.link.now _ (Over c.in-Over.result) lent.left left.left lent.refused left.refused _ _
    poll.polls.passes.source c.new-rationed.ensures.left c.new-rationed.ensures.refused poll.few (λ e. absurd cc)))

pub returns-in-Spent-clause-turn : goal.returns-in-Spent-clause-turn
returns-in-Spent-clause-turn g c =
    let meaning = meaning_of g.L.Ends.input g.L.Ends.output g.L.Ends.line in
    let lent = c.new-rationed.result in
    let left = c.poll_turn-answer.new.link in
    let poll = c.in-Spent.ensures.turn in
    moved (λ a b. TakesTurn g.I.Framing.framing g.V.Answerer.answering meaning c.args.limits (record { link = a; process = c.args.process.now }) (record { link = b; process = c.poll_turn-answer.new.self })
    c.args.service.now c.poll_turn-answer.new.service Spent)
    lent.link.now _ left.link.now _ (search rules) (search rules)
    (is_spent g.I.Framing.framing g.V.Answerer.answering meaning (record { link = lent.link.now; process = c.args.process.now })
    (record { link = left.link.now; process = c.poll_turn-answer.new.self }) c.args.service.now c.poll_turn-answer.new.service
    _ _ _ _ _ _ _ _ c.args.limits poll.polls
    (keeps_within meaning c.args.limits lent.link.now left.link.now _ Spent lent.left left.left lent.refused left.refused _ _
    poll.polls.passes.source c.new-rationed.ensures.left c.new-rationed.ensures.refused poll.few (λ e. inl (poll.spent refl)))
    (inl (poll.spent refl)))

pub returns-in-Waiting-clause-turn : goal.returns-in-Waiting-clause-turn
returns-in-Waiting-clause-turn g c =
    let meaning = meaning_of g.L.Ends.input g.L.Ends.output g.L.Ends.line in
    let lent = c.new-rationed.result in
    let left = c.poll_turn-answer.new.link in
    let poll = c.in-Waiting.ensures.turn in
    let refused : 0 < left.refused = search rules in
    moved (λ a b. TakesTurn g.I.Framing.framing g.V.Answerer.answering meaning c.args.limits (record { link = a; process = c.args.process.now }) (record { link = b; process = c.poll_turn-answer.new.self })
    c.args.service.now c.poll_turn-answer.new.service Spent)
    lent.link.now _ left.link.now _ (search rules) (search rules)
    (is_spent g.I.Framing.framing g.V.Answerer.answering meaning (record { link = lent.link.now; process = c.args.process.now })
    (record { link = left.link.now; process = c.poll_turn-answer.new.self }) c.args.service.now c.poll_turn-answer.new.service
    _ _ _ _ _ _ _ _ c.args.limits poll.polls
    (keeps_within meaning c.args.limits lent.link.now left.link.now _ Spent lent.left left.left lent.refused left.refused _ _
    poll.polls.passes.source c.new-rationed.ensures.left c.new-rationed.ensures.refused poll.few (λ e. inr refused))
    (inr (poll.rests refl)))

pub returns-in-Waiting-2-clause-turn : goal.returns-in-Waiting-2-clause-turn
returns-in-Waiting-2-clause-turn g c =
    let meaning = meaning_of g.L.Ends.input g.L.Ends.output g.L.Ends.line in
    let lent = c.new-rationed.result in
    let left = c.poll_turn-answer.new.link in
    let poll = c.in-Waiting-2.ensures.turn in
    moved (λ a b. TakesTurn g.I.Framing.framing g.V.Answerer.answering meaning c.args.limits (record { link = a; process = c.args.process.now }) (record { link = b; process = c.poll_turn-answer.new.self })
    c.args.service.now c.poll_turn-answer.new.service Waiting)
    lent.link.now _ left.link.now _ (search rules) (search rules)
    (waits g.I.Framing.framing g.V.Answerer.answering meaning (record { link = lent.link.now; process = c.args.process.now })
    (record { link = left.link.now; process = c.poll_turn-answer.new.self }) c.args.service.now c.poll_turn-answer.new.service
    _ _ _ _ _ _ _ _ c.args.limits poll.polls
    (keeps_within meaning c.args.limits lent.link.now left.link.now _ Waiting lent.left left.left lent.refused left.refused _ _
    poll.polls.passes.source c.new-rationed.ensures.left c.new-rationed.ensures.refused poll.few (λ e. absurd cc))
    (poll.rests refl))

pub returns-in-Over-clause-came : goal.returns-in-Over-clause-came
returns-in-Over-clause-came g c =
    let meaning = meaning_of g.L.Ends.input g.L.Ends.output g.L.Ends.line in
    let lent = c.new-rationed.result in
    let left = c.poll_turn-answer.new.link in
    moved (λ a b. GaveIfTold meaning a b (nat_lt left.left c.args.limits.reads)) lent.link.now _ left.link.now _ (search rules) (search rules)
    (gives_told meaning c.args.limits lent.link.now left.link.now lent.left left.left lent.refused left.refused _ _
    c.in-Over.ensures.turn.polls.passes.source c.new-rationed.ensures.left)

pub returns-in-Spent-clause-came : goal.returns-in-Spent-clause-came
returns-in-Spent-clause-came g c =
    let meaning = meaning_of g.L.Ends.input g.L.Ends.output g.L.Ends.line in
    let lent = c.new-rationed.result in
    let left = c.poll_turn-answer.new.link in
    moved (λ a b. GaveIfTold meaning a b (nat_lt left.left c.args.limits.reads)) lent.link.now _ left.link.now _ (search rules) (search rules)
    (gives_told meaning c.args.limits lent.link.now left.link.now lent.left left.left lent.refused left.refused _ _
    c.in-Spent.ensures.turn.polls.passes.source c.new-rationed.ensures.left)

pub returns-in-Waiting-clause-came : goal.returns-in-Waiting-clause-came
returns-in-Waiting-clause-came g c =
    let meaning = meaning_of g.L.Ends.input g.L.Ends.output g.L.Ends.line in
    let lent = c.new-rationed.result in
    let left = c.poll_turn-answer.new.link in
    moved (λ a b. GaveIfTold meaning a b (nat_lt left.left c.args.limits.reads)) lent.link.now _ left.link.now _ (search rules) (search rules)
    (gives_told meaning c.args.limits lent.link.now left.link.now lent.left left.left lent.refused left.refused _ _
    c.in-Waiting.ensures.turn.polls.passes.source c.new-rationed.ensures.left)

pub returns-in-Waiting-2-clause-came : goal.returns-in-Waiting-2-clause-came
returns-in-Waiting-2-clause-came g c =
    let meaning = meaning_of g.L.Ends.input g.L.Ends.output g.L.Ends.line in
    let lent = c.new-rationed.result in
    let left = c.poll_turn-answer.new.link in
    moved (λ a b. GaveIfTold meaning a b (nat_lt left.left c.args.limits.reads)) lent.link.now _ left.link.now _ (search rules) (search rules)
    (gives_told meaning c.args.limits lent.link.now left.link.now lent.left left.left lent.refused left.refused _ _
    c.in-Waiting-2.ensures.turn.polls.passes.source c.new-rationed.ensures.left)
