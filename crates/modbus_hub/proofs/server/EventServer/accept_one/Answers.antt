use Rattle.std.proofs.Common.{refl, ap, inl, inr, true, false, length, [], ◌∷◌, Ok, Err, arith, rules, ◌≤◌}
use Rattle.modbus_link.specs.Line.{meaning_of}
use Rattle.slab.specs.Slab.{slab_len}
use Rattle.modbus_link.specs.declared.polled.Polled.TheVariants.{Pending}
use Rattle.modbus_hub.specs.Turns.{AcceptsNext, BringsPeer}
use Rattle.modbus_hub.proofs.Seating.{stay_as, stay_same}
use Rattle.modbus_hub.proofs.Rounding.{state, brings, nobody, accepts_none}
use Rattle.modbus_hub.proofs.server.EventServer.accept_one.Goals as goal

pub returns-then-is_full-clause-stays : goal.returns-then-is_full-clause-stays
returns-then-is_full-clause-stays g c =
    let accepts = g.A.PolledAcceptor.accepts in
    let faults = g.S.Readiness.faults in
    let now = c.args.self.now in
    let full : now.seats.places.connections ≤ slab_len now.seats.seats = search rules in
    stay_same g.I.Framing.framing (meaning_of g.A.Link.Ends.input g.A.Link.Ends.output g.A.Link.Ends.line)
    (AcceptsNext accepts faults false now now) now.seats.seats now.seats.seats (λ key. refl)
    (λ history all. ((accepts_none accepts faults now history).0, refl, λ asked. inr (asked, inl full)))

pub returns-in-Ok-Ready-clause-stays : goal.returns-in-Ok-Ready-clause-stays
returns-in-Ok-Ready-clause-stays g c =
    let meaning = meaning_of g.A.Link.Ends.input g.A.Link.Ends.output g.A.Link.Ends.line in
    let accepts = g.A.PolledAcceptor.accepts in
    let faults = g.S.Readiness.faults in
    let first = state c.self.inside.acceptor c.self.inside.readiness c.self.inside.seats c.self.inside.losses c.self.inside.is_asked c.self.inside.is_crowded in
    let polled = state c.poll_accept.new.self c.self.inside.readiness c.self.inside.seats c.self.inside.losses c.self.inside.is_asked c.self.inside.is_crowded in
    let last = c.admit.new.self in
    rw (← c.self.view_is) (stay_as g.I.Framing.framing meaning (BringsPeer faults (g.A.Link.Peered.peer c.in-Ok-Ready.link) c.in-Ok-Ready.link polled last) (AcceptsNext accepts faults true first last)
    c.self.inside.seats.seats last.seats.seats c.admit.ensures.stays
    (λ history more e. (
      (
        brings accepts faults first polled last c.in-Ok-Ready.link history more
            (rw c.in-Ok-Ready.field-0-is at c.in-Ok-Ready.ensures.accepts) c.admit.ensures.acceptor refl refl e.brings,
        e.brings.none,
        e.brings.gone,
      ),
      ap length e.brings.links,
      c.admit.ensures.asked,
    )))

pub returns-in-Ok-Pending-clause-stays : goal.returns-in-Ok-Pending-clause-stays
returns-in-Ok-Pending-clause-stays g c =
    let meaning = meaning_of g.A.Link.Ends.input g.A.Link.Ends.output g.A.Link.Ends.line in
    let accepts = g.A.PolledAcceptor.accepts in
    let faults = g.S.Readiness.faults in
    let first = state c.self.inside.acceptor c.self.inside.readiness c.self.inside.seats c.self.inside.losses c.self.inside.is_asked c.self.inside.is_crowded in
    let polled = state c.poll_accept.new.self c.self.inside.readiness c.self.inside.seats c.self.inside.losses false c.self.inside.is_crowded in
    rw (← c.self.view_is) (stay_same g.I.Framing.framing meaning (AcceptsNext accepts faults false first polled)
    c.self.inside.seats.seats c.self.inside.seats.seats (λ key. refl)
    (λ history all. (
      (nobody accepts faults first polled history (Ok Pending) refl (rw c.in-Ok-Pending.field-0-is at c.in-Ok-Pending.ensures.accepts) (omega arith) (refl, refl), tt, (refl, refl)),
      refl,
      λ asked. inl (Ok Pending ∷ [], (polled.acceptor, [], rw c.in-Ok-Pending.field-0-is at c.in-Ok-Pending.ensures.accepts, refl, (refl, refl)), tt),
    )))

pub returns-in-Err-clause-stays : goal.returns-in-Err-clause-stays
returns-in-Err-clause-stays g c =
    let meaning = meaning_of g.A.Link.Ends.input g.A.Link.Ends.output g.A.Link.Ends.line in
    let accepts = g.A.PolledAcceptor.accepts in
    let faults = g.S.Readiness.faults in
    let first = state c.self.inside.acceptor c.self.inside.readiness c.self.inside.seats c.self.inside.losses c.self.inside.is_asked c.self.inside.is_crowded in
    let polled = state c.poll_accept.new.self c.self.inside.readiness c.self.inside.seats c.self.inside.losses c.self.inside.is_asked c.self.inside.is_crowded in
    rw (← c.self.view_is) (stay_same g.I.Framing.framing meaning (AcceptsNext accepts faults false first polled)
    c.self.inside.seats.seats c.self.inside.seats.seats (λ key. refl)
    (λ history all. (
      (nobody accepts faults first polled history (Err c.in-Err.field-0) refl c.in-Err.ensures.accepts (omega arith) (refl, refl), tt, (refl, refl)),
      refl,
      λ asked. inr (asked, inr (inl (Err c.in-Err.field-0 ∷ [], (polled.acceptor, [], c.in-Err.ensures.accepts, refl, (refl, refl)), tt))),
    )))

pub returns-in-Ok-Ready-clause-left : goal.returns-in-Ok-Ready-clause-left
returns-in-Ok-Ready-clause-left g c = rw (← c.self.view_is) c.admit.ensures.left

pub returns-in-Ok-Ready-clause-few : goal.returns-in-Ok-Ready-clause-few
returns-in-Ok-Ready-clause-few g c = rw (← c.self.view_is) c.admit.ensures.few

pub returns-in-Ok-Ready-clause-watched : goal.returns-in-Ok-Ready-clause-watched
returns-in-Ok-Ready-clause-watched g c = rw (← c.self.view_is) c.admit.ensures.watched
