use Rattle.std.proofs.Common.{◌≡◌, ◌⊎◌, inl, inr, ◌∙◌, Ok, IsTrue, ap, sym, ◌≤◌, subst}
use Rattle.modbus_link.specs.Line.{meaning_of}
use Rattle.modbus_hub.specs.Counted.{counted}
use Rattle.modbus_hub.specs.Seats.{polled_by, AllStand, AsksNone}
use Rattle.modbus_hub.specs.Turns.{ServesFound, ServesLeft, AcceptsAsked, IsPeerFound, TakesRound}
use Rattle.modbus_hub.proofs.Marks.{marks_same, one_same}
use Rattle.modbus_hub.proofs.Seating.{go_aside, go_both, go_standing, stay_aside}
use Rattle.modbus_hub.proofs.Sharing.{few_after, peers_both}
use Rattle.modbus_hub.proofs.Rounding.{state, ServesDue, due_both, round_of}
use Rattle.modbus_hub.proofs.server.EventServer.turn.Goals as goal

pub returns-in-Ok-clause-goes_on : goal.returns-in-Ok-clause-goes_on
returns-in-Ok-clause-goes_on g c =
    let link = meaning_of g.A.Link.Ends.input g.A.Link.Ends.output g.A.Link.Ends.line in
    let meaning = polled_by link g.A.Link.PolledLink.not_ready c.self.inside.seats.limits in
    let framing = g.I.Framing.framing in
    let answering = (counted g.V.Answerer.answering) in
    let accepts = g.A.PolledAcceptor.accepts in
    let faults = g.S.Readiness.faults in
    let found = g.S.Readiness.found in
    let seats = c.self.inside.seats in
    let first = state c.self.inside.acceptor c.self.inside.readiness seats c.self.inside.losses c.self.inside.is_asked c.self.inside.is_crowded in
    let ready = c.serve_ready.new.self in
    let served = c.serve_left.new.self in
    let last = c.accept_asked.new.self in
    let service = c.args.service.now in
    let now = c.serve_ready.new.service in
    let after = c.serve_left.new.service in
    let waited : faults c.self.inside.readiness ≤ faults served.readiness =
    subst (λ r. faults c.self.inside.readiness ≤ faults r) (sym (c.serve_left.ensures.readiness ∙ c.serve_ready.ensures.readiness)) c.wait.ensures.later in
    let told : found last.readiness ≡ found ready.readiness = c.accept_asked.ensures.found ∙ ap found c.serve_left.ensures.readiness in
    let same : found last.readiness ≡ found c.wait.new.self = told ∙ ap found c.serve_ready.ensures.readiness in
    let asks : IsTrue c.self.inside.is_asked ⊎ IsPeerFound (found last.readiness) → IsTrue served.is_asked =
    λ asked.
    subst IsTrue (sym c.serve_left.ensures.asked) (
    elim asked [
      | inl before ↦ c.serve_ready.ensures.waits before
      | inr is ↦ c.serve_ready.ensures.asked (subst IsPeerFound same is)
    ]) in
    let due = due_both framing link seats ready.seats (found last.readiness) c.serve_ready.ensures.stays (rw (same) c.serve_ready.ensures.others) in
    rw (← c.self.view_is) (go_both framing answering meaning (ServesDue seats (found last.readiness)) (λ history more. AcceptsAsked accepts faults served last history more × AsksNone history more)
    (TakesRound accepts faults found first last (Ok tt))
    seats.seats served.seats.seats last.seats.seats service after after
    (go_both framing answering meaning (λ history more. ServesFound (found last.readiness) history more × AllStand framing link history seats.seats) (ServesLeft (found last.readiness) ready.seats)
    (ServesDue seats (found last.readiness)) seats.seats ready.seats.seats served.seats.seats service now after
    (go_standing framing answering meaning (ServesFound (found last.readiness)) seats.seats ready.seats.seats service now (rw (same) c.serve_ready.ensures.goes_on))
    (rw (told) (rw (c.serve_ready.ensures.no_more.0) at c.serve_left.ensures.goes_on)) due)
    (go_aside framing answering meaning (λ history more. AcceptsAsked accepts faults served last history more × AsksNone history more) served.seats.seats last.seats.seats after
    (stay_aside framing link (AcceptsAsked accepts faults served last) served.seats.seats last.seats.seats c.accept_asked.ensures.stays))
    (λ history xs ys some more. round_of accepts faults found first served last history xs ys (c.serve_left.ensures.acceptor ∙ c.serve_ready.ensures.acceptor) waited
    (c.serve_left.ensures.losses ∙ c.serve_ready.ensures.losses) (one_same served.seats last.seats c.accept_asked.ensures.left c.serve_left.ensures.one_left) asks some more))

pub returns-in-Ok-clause-marks : goal.returns-in-Ok-clause-marks
returns-in-Ok-clause-marks g c =
    rw (← c.self.view_is) (λ marks. marks_same c.serve_left.new.self.seats c.accept_asked.new.self.seats c.accept_asked.ensures.left (c.serve_left.ensures.marks (c.serve_ready.ensures.marks marks)))

pub returns-in-Ok-clause-few : goal.returns-in-Ok-clause-few
returns-in-Ok-clause-few g c =
    let seats = c.self.inside.seats in
    let ready = c.serve_ready.new.self.seats in
    let served = c.serve_left.new.self.seats in
    rw (← c.self.view_is) (λ few. c.accept_asked.ensures.few (few_after seats served (c.serve_left.ensures.no_more.1 ∙ c.serve_ready.ensures.no_more.1)
    (peers_both seats.seats ready.seats served.seats c.serve_ready.ensures.peers c.serve_left.ensures.peers) few))
