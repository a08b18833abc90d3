use Rattle.std.proofs.Common.{rules, ◌≡◌, Some}
use Rattle.slab.specs.Slab.{ContainsKey, get}
use Rattle.slab.proofs.SlabLemmas.{Updates-with_value}
use Rattle.modbus_link.specs.Line.{meaning_of}
use Rattle.modbus_hub.specs.Counted.{counted}
use Rattle.modbus_hub.specs.Seats.{polled_by}
use Rattle.modbus_hub.specs.declared.turn.Turn.TheVariants.{Waiting, Spent, Over}
use Rattle.modbus_hub.proofs.Seating.{served, updates_both}
use Rattle.modbus_hub.proofs.Sharing.{peers_gone, peers_stay}
use Rattle.modbus_hub.proofs.seats.Seats.serve.Goals as goal

pub returns-in-Waiting-clause-goes_on : goal.returns-in-Waiting-clause-goes_on
returns-in-Waiting-clause-goes_on g c =
    let olds = c.self.inside.seats in
    let here : get olds c.args.key ≡ Some c.in-Some.seat.now = search rules in
    let present : ContainsKey olds c.args.key = search rules in
    rw (← c.self.view_is) (served g.I.Framing.framing (counted g.V.Answerer.answering) (polled_by (meaning_of g.L.Ends.input g.L.Ends.output g.L.Ends.line) g.L.PolledLink.not_ready c.self.inside.limits.turn) c.args.key olds _ c.in-Some.seat.now c.serve.new.self c.args.service.now c.serve.new.service
    here Waiting c.in-Waiting.ensures.turn c.in-Waiting.ensures.open c.in-Waiting.ensures.waited c.in-Waiting.ensures.spent (Updates-with_value olds c.args.key c.serve.new.self present))

pub returns-in-Spent-clause-goes_on : goal.returns-in-Spent-clause-goes_on
returns-in-Spent-clause-goes_on g c =
    let olds = c.self.inside.seats in
    let here : get olds c.args.key ≡ Some c.in-Some.seat.now = search rules in
    let present : ContainsKey olds c.args.key = search rules in
    rw (← c.self.view_is) (served g.I.Framing.framing (counted g.V.Answerer.answering) (polled_by (meaning_of g.L.Ends.input g.L.Ends.output g.L.Ends.line) g.L.PolledLink.not_ready c.self.inside.limits.turn) c.args.key olds _ c.in-Some.seat.now c.serve.new.self c.args.service.now c.serve.new.service
    here Spent c.in-Spent.ensures.turn c.in-Spent.ensures.open c.in-Spent.ensures.waited c.in-Spent.ensures.spent (Updates-with_value olds c.args.key c.serve.new.self present))

pub returns-in-Over-clause-goes_on : goal.returns-in-Over-clause-goes_on
returns-in-Over-clause-goes_on g c =
    let olds = c.self.inside.seats in
    let here : get olds c.args.key ≡ Some c.in-Some.seat.now = search rules in
    let present : ContainsKey olds c.args.key = search rules in
    rw (← c.self.view_is) (served g.I.Framing.framing (counted g.V.Answerer.answering) (polled_by (meaning_of g.L.Ends.input g.L.Ends.output g.L.Ends.line) g.L.PolledLink.not_ready c.self.inside.limits.turn) c.args.key olds c.try_remove-in-Over.new.self c.in-Some.seat.now c.serve.new.self c.args.service.now c.serve.new.service
    here (Over c.in-Over.answer) c.in-Over.ensures.turn c.in-Over.ensures.open c.in-Over.ensures.waited c.in-Over.ensures.spent
    (updates_both olds _ c.try_remove-in-Over.new.self c.args.key _ _ (Updates-with_value olds c.args.key c.serve.new.self present) c.try_remove-in-Over.ensures.updates))

pub returns-in-Waiting-clause-peers : goal.returns-in-Waiting-clause-peers
returns-in-Waiting-clause-peers g c =
    let olds = c.self.inside.seats in
    let here : get olds c.args.key ≡ Some c.in-Some.seat.now = search rules in
    let present : ContainsKey olds c.args.key = search rules in
    rw (← c.self.view_is) (peers_stay olds _ c.args.key c.in-Some.seat.now c.serve.new.self here c.in-Waiting.ensures.peer (Updates-with_value olds c.args.key c.serve.new.self present))

pub returns-in-Spent-clause-peers : goal.returns-in-Spent-clause-peers
returns-in-Spent-clause-peers g c =
    let olds = c.self.inside.seats in
    let here : get olds c.args.key ≡ Some c.in-Some.seat.now = search rules in
    let present : ContainsKey olds c.args.key = search rules in
    rw (← c.self.view_is) (peers_stay olds _ c.args.key c.in-Some.seat.now c.serve.new.self here c.in-Spent.ensures.peer (Updates-with_value olds c.args.key c.serve.new.self present))

pub returns-in-Over-clause-peers : goal.returns-in-Over-clause-peers
returns-in-Over-clause-peers g c =
    let olds = c.self.inside.seats in
    let present : ContainsKey olds c.args.key = search rules in
    rw (← c.self.view_is) (peers_gone olds c.try_remove-in-Over.new.self c.args.key
    (updates_both olds _ c.try_remove-in-Over.new.self c.args.key _ _ (Updates-with_value olds c.args.key c.serve.new.self present) c.try_remove-in-Over.ensures.updates))
