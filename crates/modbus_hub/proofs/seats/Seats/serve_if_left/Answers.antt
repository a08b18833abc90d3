use Rattle.std.proofs.Common.{rules, ◌≡◌, Bool, true, false, inl, inr, refl, IsTrue}
use Rattle.slab.specs.Slab.{get}
use Rattle.modbus_link.specs.Line.{meaning_of}
use Rattle.modbus_hub.specs.Counted.{counted}
use Rattle.modbus_hub.specs.Seats.{polled_by, IsFound, IsLeft, TurnsIfLeft, is_spent_at}
use Rattle.modbus_hub.proofs.Histories.{among_as, stays_none}
use Rattle.modbus_hub.proofs.Seating.{turned_where, Turned, go_as, go_same}
use Rattle.modbus_hub.proofs.seats.Seats.serve_if_left.Goals as goal

no_both : (b : Bool) → b ≡ false → b ≡ true → ⊥
no_both b e f = cc

pub returns-then-not-is_spent-clause-goes_on : goal.returns-then-not-is_spent-clause-goes_on
returns-then-not-is_spent-clause-goes_on g c =
    let slot = get c.args.self.now.seats c.args.key in
    let unspent : is_spent_at slot ≡ false = search rules in
    go_same g.I.Framing.framing (counted g.V.Answerer.answering) (polled_by (meaning_of g.L.Ends.input g.L.Ends.output g.L.Ends.line) g.L.PolledLink.not_ready c.args.self.now.limits) (TurnsIfLeft c.args.found.now c.args.key slot)
    c.args.self.now.seats c.args.service.now
    (λ history. ((refl, stays_none history, tt), λ spent. absurd (no_both (is_spent_at slot) unspent spent), λ key. inl refl))

pub returns-then-is_found-clause-goes_on : goal.returns-then-is_found-clause-goes_on
returns-then-is_found-clause-goes_on g c =
    let is : IsFound c.args.key c.args.found.now = search rules in
    rw (← c.self.view_is) (go_same g.I.Framing.framing (counted g.V.Answerer.answering) (polled_by (meaning_of g.L.Ends.input g.L.Ends.output g.L.Ends.line) g.L.PolledLink.not_ready c.self.inside.limits.turn)
    (TurnsIfLeft c.args.found.now c.args.key (get c.self.inside.seats c.args.key)) c.self.inside.seats c.args.service.now
    (λ history. ((refl, stays_none history, tt), λ spent. inl is, λ key. inl refl)))

pub returns-else-is_found-clause-goes_on : goal.returns-else-is_found-clause-goes_on
returns-else-is_found-clause-goes_on g c =
    let meaning = polled_by (meaning_of g.L.Ends.input g.L.Ends.output g.L.Ends.line) g.L.PolledLink.not_ready c.args.self.now.limits in
    let slot = get c.args.self.now.seats c.args.key in
    let spent : IsTrue (is_spent_at slot) = search rules in
    let unfound : IsFound c.args.key c.args.found.now → ⊥ = λ is. no_both c.is_found.result (search rules) (c.is_found.ensures.1 is) in
    go_as g.I.Framing.framing (counted g.V.Answerer.answering) meaning (Turned c.args.key) (TurnsIfLeft c.args.found.now c.args.key slot)
    c.args.self.now.seats c.serve.new.self.seats c.args.service.now c.serve.new.service
    (turned_where g.I.Framing.framing (counted g.V.Answerer.answering) meaning c.args.key c.serve.result c.args.self.now.seats c.serve.new.self.seats c.args.service.now c.serve.new.service spent c.serve.ensures.goes_on)
    (λ history more says. (says.0, λ is. inr says.1, among_as (λ k. k ≡ c.args.key) (λ k. (k ≡ c.args.key) × IsLeft c.args.found.now c.args.key slot) more says.2 (λ k e. (e, (spent, unfound)))))
