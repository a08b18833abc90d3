use Rattle.std.proofs.Common.{rules, refl, inl, ap, ◌∙◌, [], ◌∷◌}
use Rattle.std.specs.declared.alloc.AllocError.{AllocError}
use Rattle.std.specs.Prelude.{◌≡◌, Some, Ok, Err}
use Rattle.modbus_link.specs.Line.{meaning_of}
use Rattle.modbus_hub.specs.Events.{came, refused, no_watch, no_memory}
use Rattle.modbus_hub.specs.Seats.{Admits}
use Rattle.modbus_hub.specs.Turns.{Brings}
use Rattle.modbus_hub.proofs.Seating.{Refuses, turned_away, stay_as}
use Rattle.modbus_hub.proofs.Rounding.{state, brings_seat, brings_unwatched, brings_unseated}
use Rattle.modbus_hub.proofs.server.EventServer.seat.Goals as goal

pub returns-in-Err-clause-stays : goal.returns-in-Err-clause-stays
returns-in-Err-clause-stays g c =
    let meaning = meaning_of g.A.Link.Ends.input g.A.Link.Ends.output g.A.Link.Ends.line in
    let faults = g.S.Readiness.faults in
    let seats = c.self.inside.seats in
    let first = state c.self.inside.acceptor c.self.inside.readiness seats c.self.inside.losses c.self.inside.is_asked c.self.inside.is_crowded in
    let last = state c.self.inside.acceptor c.watch.new.self seats c.self.inside.losses c.self.inside.is_asked c.self.inside.is_crowded in
    rw (← c.self.view_is) (stay_as g.I.Framing.framing meaning (Refuses no_watch c.args.link) (Brings faults c.args.link first last)
    seats.seats seats.seats
    (turned_away g.I.Framing.framing meaning no_watch c.args.link seats.seats seats.seats (λ key. refl))
    (λ history more e. brings_unwatched faults first last c.args.link history more c.in-Err.ensures.cause refl e))

pub returns-in-Ok-admit-clause-stays : goal.returns-in-Ok-admit-clause-stays
returns-in-Ok-admit-clause-stays g c =
    let meaning = meaning_of g.A.Link.Ends.input g.A.Link.Ends.output g.A.Link.Ends.line in
    let faults = g.S.Readiness.faults in
    let seats = c.self.inside.seats in
    let now = c.admit.new.self in
    let link = c.watch.new.link in
    let first = state c.self.inside.acceptor c.self.inside.readiness seats c.self.inside.losses c.self.inside.is_asked c.self.inside.is_crowded in
    let last = state c.self.inside.acceptor c.watch.new.self now c.self.inside.losses c.self.inside.is_asked c.self.inside.is_crowded in
    rw (← c.self.view_is) (stay_as g.I.Framing.framing meaning (Admits {E = AllocError} link (Ok c.in-Ok-admit._key)) (Brings faults c.args.link first last)
    seats.seats now.seats c.in-Ok-admit.ensures.stays
    (λ history more e. brings_seat faults first last c.in-Ok-admit._key c.args.link history more c.watch.ensures.later refl
    (e ∙ ap (λ (l : g.row.A-Link.Denot). came c.in-Ok-admit._key l ∷ []) c.watch.ensures.link)))

pub returns-in-Err-admit-clause-stays : goal.returns-in-Err-admit-clause-stays
returns-in-Err-admit-clause-stays g c =
    let meaning = meaning_of g.A.Link.Ends.input g.A.Link.Ends.output g.A.Link.Ends.line in
    let faults = g.S.Readiness.faults in
    let seats = c.self.inside.seats in
    let now = c.admit.new.self in
    let link = c.watch.new.link in
    let first = state c.self.inside.acceptor c.self.inside.readiness seats c.self.inside.losses c.self.inside.is_asked c.self.inside.is_crowded in
    let last = state c.self.inside.acceptor c.watch.new.self now (record c.self.inside.losses { memory = c.saturating_add-self-inside.result }) c.self.inside.is_asked c.self.inside.is_crowded in
    rw (← c.self.view_is) (stay_as g.I.Framing.framing meaning (Admits {E = AllocError} link (Err c.in-Err-admit.field-0)) (Brings faults c.args.link first last)
    seats.seats now.seats c.in-Err-admit.ensures.stays
    (λ history more e. brings_unseated faults first last c.args.link history more c.watch.ensures.later c.saturating_add-self-inside.ensures refl (refl, refl)
    (e ∙ ap (λ (l : g.row.A-Link.Denot). refused no_memory l ∷ []) c.watch.ensures.link)))

pub returns-in-Ok-admit-clause-left : goal.returns-in-Ok-admit-clause-left
returns-in-Ok-admit-clause-left g c = rw (← c.self.view_is) c.admit.ensures.left

pub returns-in-Err-admit-clause-left : goal.returns-in-Err-admit-clause-left
returns-in-Err-admit-clause-left g c = rw (← c.self.view_is) c.admit.ensures.left

pub returns-in-Ok-admit-clause-joins : goal.returns-in-Ok-admit-clause-joins
returns-in-Ok-admit-clause-joins g c = rw (← c.self.view_is) c.admit.ensures.joins

pub returns-in-Err-admit-clause-joins : goal.returns-in-Err-admit-clause-joins
returns-in-Err-admit-clause-joins g c = rw (← c.self.view_is) c.admit.ensures.joins

pub returns-in-Err-clause-joins : goal.returns-in-Err-clause-joins
returns-in-Err-clause-joins g c = rw (← c.self.view_is) (inl (λ key peer is. is))

pub returns-in-Err-clause-watched : goal.returns-in-Err-clause-watched
returns-in-Err-clause-watched g c = rw (← c.self.view_is) (λ key own. refl)

pub returns-in-Ok-admit-clause-watched : goal.returns-in-Ok-admit-clause-watched
returns-in-Ok-admit-clause-watched g c =
    let watched : g.S.Readiness.watched c.watch.new.self ≡ Some c.self.inside.seats.seats.vacant_key = search rules in
    rw (← c.self.view_is) (λ key own. c.admit.ensures.under key (λ is. own (watched ∙ is)))

pub returns-in-Err-admit-clause-watched : goal.returns-in-Err-admit-clause-watched
returns-in-Err-admit-clause-watched g c =
    let watched : g.S.Readiness.watched c.watch.new.self ≡ Some c.self.inside.seats.seats.vacant_key = search rules in
    rw (← c.self.view_is) (λ key own. c.admit.ensures.under key (λ is. own (watched ∙ is)))
