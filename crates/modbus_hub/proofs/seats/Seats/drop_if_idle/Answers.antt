use Rattle.std.proofs.Common.{rules, ◌≡◌, ap, Some}
use Rattle.slab.specs.Slab.{ContainsKey, get}
use Rattle.modbus_hub.specs.Events.{Place}
use Rattle.slab.proofs.SlabLemmas.{Updates-with_value}
use Rattle.modbus_link.specs.Line.{meaning_of}
use Rattle.modbus_hub.proofs.Seating.{let_go, kept_marked, updates_both}
use Rattle.modbus_hub.proofs.Sharing.{peers_gone, peers_stay}
use Rattle.modbus_hub.proofs.seats.Seats.drop_if_idle.Goals as goal

pub returns-then-take_fresh-clause-stays : goal.returns-then-take_fresh-clause-stays
returns-then-take_fresh-clause-stays g c =
    let olds = c.self.inside.seats in
    let here : get olds c.args.key ≡ Some c.in-Some.idle.now = search rules in
    let present : ContainsKey olds c.args.key = search rules in
    rw (← c.self.view_is) (kept_marked g.I.Framing.framing (meaning_of g.L.Ends.input g.L.Ends.output g.L.Ends.line) c.args.key olds _ c.in-Some.idle.now c.take_fresh.new.self here
    (ap (λ (p : Place g.row.L.Denot). p.seat) c.take_fresh.ensures.now) (ap (λ (p : Place g.row.L.Denot). p.is_spent) c.take_fresh.ensures.now) (Updates-with_value olds c.args.key c.take_fresh.new.self present))

pub returns-clause-stays : goal.returns-clause-stays
returns-clause-stays g c =
    let olds = c.self.inside.seats in
    let present : ContainsKey olds c.args.key = search rules in
    rw (← c.self.view_is) (let_go g.I.Framing.framing (meaning_of g.L.Ends.input g.L.Ends.output g.L.Ends.line) c.args.key olds c.try_remove.new.self
    (updates_both olds _ c.try_remove.new.self c.args.key _ _ (Updates-with_value olds c.args.key c.take_fresh.new.self present) c.try_remove.ensures.updates))

pub returns-then-take_fresh-clause-peers : goal.returns-then-take_fresh-clause-peers
returns-then-take_fresh-clause-peers g c =
    let olds = c.self.inside.seats in
    let here : get olds c.args.key ≡ Some c.in-Some.idle.now = search rules in
    let present : ContainsKey olds c.args.key = search rules in
    rw (← c.self.view_is) (peers_stay olds _ c.args.key c.in-Some.idle.now c.take_fresh.new.self here
    (ap (λ (p : Place g.row.L.Denot). p.peer) c.take_fresh.ensures.now) (Updates-with_value olds c.args.key c.take_fresh.new.self present))

pub returns-clause-peers : goal.returns-clause-peers
returns-clause-peers g c =
    let olds = c.self.inside.seats in
    let present : ContainsKey olds c.args.key = search rules in
    rw (← c.self.view_is) (peers_gone olds c.try_remove.new.self c.args.key
    (updates_both olds _ c.try_remove.new.self c.args.key _ _ (Updates-with_value olds c.args.key c.take_fresh.new.self present) c.try_remove.ensures.updates))
