use Rattle.std.proofs.Common.{[], ◌∷◌, inl, inr, ap, sym}
use Rattle.std.proofs.lemmas.Bool.{cases_eq}
use Rattle.modbus_link.specs.Line.{meaning_of}
use Rattle.modbus_hub.specs.Counted.{counted}
use Rattle.modbus_ready.specs.declared.readiness.Ready.TheVariants.{Peer, Link}
use Rattle.modbus_hub.specs.Seats.{polled_by, IsTurnOf}
use Rattle.modbus_hub.specs.Turns.{ServesFound}
use Rattle.modbus_hub.proofs.Seating.{go_as, go_same}
use Rattle.modbus_hub.proofs.Rounding.{found_turn, found_peer}
use Rattle.modbus_hub.proofs.server.EventServer.take.Goals as goal

pub returns-in-Link-clause-goes_on : goal.returns-in-Link-clause-goes_on
returns-in-Link-clause-goes_on g c =
    rw (c.in-Link.is, ← c.self.view_is) (go_as g.I.Framing.framing (counted g.V.Answerer.answering) (polled_by (meaning_of g.A.Link.Ends.input g.A.Link.Ends.output g.A.Link.Ends.line) g.A.Link.PolledLink.not_ready c.self.inside.seats.limits) (IsTurnOf c.in-Link.key c.serve.result) (ServesFound (Link c.in-Link.key ∷ []))
    c.self.inside.seats.seats c.serve.new.self.seats c.args.service.now c.serve.new.service c.serve.ensures.goes_on (found_turn c.in-Link.key c.serve.result))

pub returns-in-Peer-clause-goes_on : goal.returns-in-Peer-clause-goes_on
returns-in-Peer-clause-goes_on g c =
    rw (c.in-Peer.is, ← c.self.view_is) (go_same g.I.Framing.framing (counted g.V.Answerer.answering) (polled_by (meaning_of g.A.Link.Ends.input g.A.Link.Ends.output g.A.Link.Ends.line) g.A.Link.PolledLink.not_ready c.self.inside.seats.limits) (ServesFound (Peer ∷ []))
    c.self.inside.seats.seats c.args.service.now (λ history. found_peer history))

pub returns-in-Link-clause-others : goal.returns-in-Link-clause-others
returns-in-Link-clause-others g c =
    rw (c.in-Link.is, ← c.self.view_is) (λ key.
    elim (cases_eq key c.in-Link.key) [
      | inl same ↦ inl (inl (ap Link (sym same)))
      | inr differs ↦ inr (c.serve.ensures.others key differs)
    ])
