use Rattle.std.proofs.Common.{◌≡◌, ◌∙◌, ap, take, get_or, [], ◌∷◌, rules}
use Rattle.modbus_link.specs.Line.{meaning_of}
use Rattle.modbus_hub.specs.Counted.{counted}
use Rattle.modbus_ready.specs.declared.readiness.Ready.TheVariants.{Peer}
use Rattle.modbus_hub.specs.Seats.{polled_by, IsTold}
use Rattle.modbus_hub.specs.Turns.{ServerState, ServesFound, ServesNext}
use Rattle.modbus_hub.proofs.Seating.{go_as, go_same}
use Rattle.modbus_hub.proofs.Rounding.{next_told, next_untold}
use Rattle.modbus_hub.proofs.server.EventServer.take_at.Goals as goal

pub returns-then-is_told-clause-goes_on : goal.returns-then-is_told-clause-goes_on
returns-then-is_told-clause-goes_on g c =
    let found = g.S.Readiness.found c.args.self.now.readiness in
    let told : IsTold (take c.args.index found) (get_or found c.args.index Peer) = search rules in
    go_same g.I.Framing.framing (counted g.V.Answerer.answering) (polled_by (meaning_of g.A.Link.Ends.input g.A.Link.Ends.output g.A.Link.Ends.line) g.A.Link.PolledLink.not_ready c.args.self.now.seats.limits)
    (ServesNext (take c.args.index found) (get_or found c.args.index Peer)) c.args.self.now.seats.seats c.args.service.now
    (λ history. next_told (take c.args.index found) (get_or found c.args.index Peer) history told)

pub returns-clause-goes_on : goal.returns-clause-goes_on
returns-clause-goes_on g c =
    let found = g.S.Readiness.found c.args.self.now.readiness in
    let same : c.ready-found.result.now ≡ found =
    c.ready-found.ensures ∙ ap (λ (s : ServerState g.row.A.Denot g.row.S.Denot g.row.A-Link.Denot). g.S.Readiness.found s.readiness) c.self.view_is in
    let untold : IsTold (take c.args.index found) (get_or found c.args.index Peer) → ⊥ = search rules in
    go_as g.I.Framing.framing (counted g.V.Answerer.answering) (polled_by (meaning_of g.A.Link.Ends.input g.A.Link.Ends.output g.A.Link.Ends.line) g.A.Link.PolledLink.not_ready c.args.self.now.seats.limits)
    (ServesFound (get_or found c.args.index Peer ∷ [])) (ServesNext (take c.args.index found) (get_or found c.args.index Peer))
    c.args.self.now.seats.seats c.take.new.self.seats.seats c.args.service.now c.take.new.service (rw (same) at c.take.ensures.goes_on)
    (λ history more serves. next_untold (take c.args.index found) (get_or found c.args.index Peer) history more untold serves)
