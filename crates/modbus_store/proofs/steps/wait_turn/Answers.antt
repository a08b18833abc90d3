use Rattle.std.proofs.Common.{◌∙◌, arith, ap}
use Rattle.modbus_store.specs.Plays.{Mine, with_stage}
use Rattle.modbus_store.specs.Views.{waiting}
use Rattle.modbus_store.proofs.Keeps.{takes_ticket, looks_serving}
use Rattle.modbus_store.proofs.Turning.{hits, holds_value}
use Rattle.modbus_store.proofs.steps.wait_turn.Goals as goal

pub fetch_add-ticket-requires : goal.fetch_add-ticket-requires
fetch_add-ticket-requires g c =
    let h = c.requires.rests in
    (c.requires.desk.0, omega arith, takes_ticket _ _ _ c.args.seat.now.me _ h.0.1 h.1)

pub load-serving-requires : goal.load-serving-requires
load-serving-requires g c =
    let h = c.requires.rests in
    let i = c.loop.invariant in
    let p = c.prepare-marked.ensures in
    let t = c.fetch_add-ticket.ensures.2 in
    let is = p.1 ∙ (i.1 ∙ t.2) in (
      p.0 ∙ (i.0 ∙ (c.fetch_add-ticket.ensures.0 ∙ c.requires.desk.0)),
      omega arith,
      looks_serving _ _ _ c.prepare-marked.new.seat.me.0 c.prepare-marked.new.seat.me.1 c.args.number t.0
          (ap (λ (m : Mine). m.0.number) is ∙ h.0.1) (ap (λ (m : Mine). m.0.stage) is) (ap (λ (m : Mine). m.0.live) is ∙ h.0.0),
    )

pub exchange-requires : goal.exchange-requires
exchange-requires g c =
    let i = c.loop.invariant in
    let p = c.prepare-marked.ensures in
    let t = c.fetch_add-ticket.ensures.2 in
    let l = c.load-serving.ensures in
    (l.0 ∙ (p.0 ∙ (i.0 ∙ (c.fetch_add-ticket.ensures.0 ∙ c.requires.desk.0))), holds_value (with_stage (waiting t.0) c.args.seat.now.me.0, c.args.seat.now.me.1) _ (hits c.args.seat.now.me _ _ _ _ _ t.1 (p.1 ∙ (i.1 ∙ t.2)) c.if-serving-ticket.true l.2))
