use Rattle.std.proofs.Common.{◌≡◌, inl, inr, ◌∙◌, refl, sym, ap, ℕ}
use Rattle.std.specs.Prelude.{Some}
use Rattle.std.specs.declared.alloc.AllocError.{AllocError}
use Rattle.modbus_link.specs.Line.{meaning_of}
use Rattle.slab.specs.Slab.{Slab, get}
use Rattle.modbus_hub.specs.Events.{Place, no_memory}
use Rattle.modbus_hub.specs.Seats.{is_spent_at}
use Rattle.modbus_hub.proofs.Marks.{same_admitted}
use Rattle.modbus_hub.proofs.Seating.{admitted, turned_away}
use Rattle.modbus_hub.proofs.Sharing.{peers_as}
use Rattle.modbus_hub.proofs.seats.Seats.admit.Goals as goal

pub returns-then-is_err-clause-stays : goal.returns-then-is_err-clause-stays
returns-then-is_err-clause-stays g c =
    rw (← c.self.view_is) (turned_away g.I.Framing.framing (meaning_of g.L.Ends.input g.L.Ends.output g.L.Ends.line) no_memory c.args.link c.self.inside.seats c.reserve.new.self
    (λ key. ap (λ (s : Slab (Place g.row.L.Denot)). get s key) c.reserve.ensures.rest_kept))

pub returns-in-Ok-clause-stays : goal.returns-in-Ok-clause-stays
returns-in-Ok-clause-stays g c =
    let same : (key : ℕ) → get c.reserve.new.self key ≡ get c.self.inside.seats key = λ key. ap (λ (s : Slab (Place g.row.L.Denot)). get s key) c.reserve.ensures.rest_kept in
    let u = c.insert_reserved.ensures.updates in
    rw (← c.self.view_is) (admitted g.I.Framing.framing (meaning_of g.L.Ends.input g.L.Ends.output g.L.Ends.line) AllocError c.args.link c.insert_reserved.result c.in-Ok.seat
    c.self.inside.seats c.insert_reserved.new.self
    (record { changed = u.changed; others = λ other differs. u.others other differs ∙ same other }) (sym (same c.insert_reserved.result) ∙ c.insert_reserved.ensures.was_vacant)
    c.in-Ok.ensures.link c.in-Ok.ensures.held c.in-Ok.ensures.waiting c.in-Ok.ensures.open c.in-Ok.ensures.left c.in-Ok.ensures.spent c.in-Ok.ensures.stands)

pub returns-in-Err-clause-stays : goal.returns-in-Err-clause-stays
returns-in-Err-clause-stays g c =
    rw (← c.self.view_is) (turned_away g.I.Framing.framing (meaning_of g.L.Ends.input g.L.Ends.output g.L.Ends.line) no_memory c.args.link c.self.inside.seats c.reserve.new.self
    (λ key. ap (λ (s : Slab (Place g.row.L.Denot)). get s key) c.reserve.ensures.rest_kept))

pub returns-then-is_err-clause-left : goal.returns-then-is_err-clause-left
returns-then-is_err-clause-left g c =
    rw (← c.self.view_is) (refl, λ key. ap (λ (s : Slab (Place g.row.L.Denot)). is_spent_at (get s key)) c.reserve.ensures.rest_kept)

pub returns-in-Ok-clause-left : goal.returns-in-Ok-clause-left
returns-in-Ok-clause-left g c =
    let same : (key : ℕ) → get c.reserve.new.self key ≡ get c.self.inside.seats key = λ key. ap (λ (s : Slab (Place g.row.L.Denot)). get s key) c.reserve.ensures.rest_kept in
    let u = c.insert_reserved.ensures.updates in
    rw (← c.self.view_is) (
      refl,
      same_admitted c.self.inside.seats c.insert_reserved.new.self c.insert_reserved.result (ap is_spent_at u.changed ∙ c.in-Ok.ensures.spent)
          (sym (same c.insert_reserved.result) ∙ c.insert_reserved.ensures.was_vacant) (λ other differs. u.others other differs ∙ same other),
    )

pub returns-in-Err-clause-left : goal.returns-in-Err-clause-left
returns-in-Err-clause-left g c =
    rw (← c.self.view_is) (refl, λ key. ap (λ (s : Slab (Place g.row.L.Denot)). is_spent_at (get s key)) c.reserve.ensures.rest_kept)

pub returns-then-is_err-clause-joins : goal.returns-then-is_err-clause-joins
returns-then-is_err-clause-joins g c = rw (← c.self.view_is) (inl (peers_as c.self.inside.seats c.reserve.new.self (λ key. ap (λ (s : Slab (Place g.row.L.Denot)). get s key) c.reserve.ensures.rest_kept)))

pub returns-in-Err-clause-joins : goal.returns-in-Err-clause-joins
returns-in-Err-clause-joins g c = rw (← c.self.view_is) (inl (peers_as c.self.inside.seats c.reserve.new.self (λ key. ap (λ (s : Slab (Place g.row.L.Denot)). get s key) c.reserve.ensures.rest_kept)))

pub returns-in-Ok-clause-joins : goal.returns-in-Ok-clause-joins
returns-in-Ok-clause-joins g c =
    let same : (key : ℕ) → get c.reserve.new.self key ≡ get c.self.inside.seats key = λ key. ap (λ (s : Slab (Place g.row.L.Denot)). get s key) c.reserve.ensures.rest_kept in
    let u = c.insert_reserved.ensures.updates in
    rw (← c.self.view_is) (inr (
      c.insert_reserved.result,
      c.in-Ok.seat,
      c.in-Ok.ensures.peer,
      sym (same c.insert_reserved.result) ∙ c.insert_reserved.ensures.was_vacant,
      record { changed = u.changed; others = λ other differs. u.others other differs ∙ same other },
    ))

pub returns-then-is_err-clause-under : goal.returns-then-is_err-clause-under
returns-then-is_err-clause-under g c = rw (← c.self.view_is) (λ key own. ap (λ (s : Slab (Place g.row.L.Denot)). get s key) c.reserve.ensures.rest_kept)

pub returns-in-Err-clause-under : goal.returns-in-Err-clause-under
returns-in-Err-clause-under g c = rw (← c.self.view_is) (λ key own. ap (λ (s : Slab (Place g.row.L.Denot)). get s key) c.reserve.ensures.rest_kept)

pub returns-in-Ok-clause-under : goal.returns-in-Ok-clause-under
returns-in-Ok-clause-under g c =
    let same : (key : ℕ) → get c.reserve.new.self key ≡ get c.self.inside.seats key = λ key. ap (λ (s : Slab (Place g.row.L.Denot)). get s key) c.reserve.ensures.rest_kept in
    let vacant : c.insert_reserved.result ≡ c.self.inside.seats.vacant_key =
    c.insert_reserved.ensures.key ∙ ap (λ (s : Slab (Place g.row.L.Denot)). s.vacant_key) c.reserve.ensures.rest_kept in
    rw (← c.self.view_is) (λ key own. c.insert_reserved.ensures.updates.others key (λ is. own (ap Some (sym (is ∙ vacant)))) ∙ same key)
