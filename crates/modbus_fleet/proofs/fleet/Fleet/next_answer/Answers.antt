use Rattle.std.proofs.Common.{rules, ◌≡◌, ◌<◌, ◌≤◌, ◌+◌, List, length, refl, ap, subst, Some, None, ◌∙◌}
use Rattle.modbus_link.specs.Line.{meaning_of}
use Rattle.modbus_ready.specs.declared.readiness.Ready.{Ready}
use Rattle.modbus_ready.specs.declared.readiness.Ready.TheVariants.{Peer}
use Rattle.modbus_fleet.specs.Device.{fleet_by}
use Rattle.modbus_fleet.specs.Fleet.{FleetState}
use Rattle.modbus_fleet.proofs.Going.{each_rests, each_after, follows_next, answers_last, none_last, waiting_is}
use Rattle.modbus_fleet.proofs.fleet.Fleet.next_answer.Goals as goal

pub ready-init : goal.ready-init
ready-init g c = rw (← c.self.view_is) (
  each_rests (fleet_by g.P.Protocol.protocol (meaning_of g.L.Ends.input g.L.Ends.output g.L.Ends.line) g.L.PolledLink.not_ready) c.self.inside.devices c.self.inside.devices (λ key. refl),
  refl,
  refl,
  λ told left new rest. rest,
)

pub returns-in-Some-clause-each : goal.returns-in-Some-clause-each
returns-in-Some-clause-each g c =
    each_after (fleet_by g.P.Protocol.protocol (meaning_of g.L.Ends.input g.L.Ends.output g.L.Ends.line) g.L.PolledLink.not_ready) c.args.self.now.devices c.self-in-ready.inside.devices c.take_ready.new.self.devices (Some c.in-Some.told) (rw (← c.self-in-ready.view_is) at c.ready.invariant.0) c.in-Some.ensures.each

pub returns-in-Some-clause-takes : goal.returns-in-Some-clause-takes
returns-in-Some-clause-takes g c =
    let m = fleet_by g.P.Protocol.protocol (meaning_of g.L.Ends.input g.L.Ends.output g.L.Ends.line) g.L.PolledLink.not_ready in
    let all = g.S.Readiness.found in
    let found = all c.args.self.now.readiness in
    let index = c.ready.index in
    let new = c.take_ready.new.self in
    let now : c.self-in-ready.inside.readiness ≡ c.args.self.now.readiness =
    ap (λ (s : FleetState g.row.P-Ids.Denot g.row.L.Denot g.row.S.Denot). s.readiness) c.self-in-ready.view_is ∙ c.ready.invariant.1 in
    let counted = c.ready-index-end.ensures ∙ ap (λ (s : FleetState g.row.P-Ids.Denot g.row.L.Denot g.row.S.Denot). all s.readiness) c.self.view_is in
    let low : index < length found = subst (λ (l : List Ready). index < length l) counted c.ready-test.true in
    let readiness : new.readiness ≡ c.args.self.now.readiness = ap (λ (s : FleetState g.row.P-Ids.Denot g.row.L.Denot g.row.S.Denot). s.readiness) c.in-Some.ensures.rest ∙ now in
    let taken : new.taken ≡ index + 1 =
    ap (λ (s : FleetState g.row.P-Ids.Denot g.row.L.Denot g.row.S.Denot). s.taken) c.in-Some.ensures.rest ∙ search rules in
    answers_last m c.args.self.now.devices c.self-in-ready.inside.devices new.devices found c.ready-in-ready.result.now _ c.args.self.now.taken index Peer c.in-Some.told
    (c.ready-in-ready.ensures ∙ ap all now) low (waiting_is all new c.args.self.now.readiness (index + 1) readiness taken) c.in-Some.ensures.takes (rw (← c.self-in-ready.view_is) at c.ready.invariant.3)

pub ready-preserved : goal.ready-preserved
ready-preserved g c =
    let m = fleet_by g.P.Protocol.protocol (meaning_of g.L.Ends.input g.L.Ends.output g.L.Ends.line) g.L.PolledLink.not_ready in
    let all = g.S.Readiness.found in
    let found = all c.args.self.now.readiness in
    let index = c.ready.index in
    let new = c.take_ready.new.self in
    let now : c.self-in-ready.inside.readiness ≡ c.args.self.now.readiness =
    ap (λ (s : FleetState g.row.P-Ids.Denot g.row.L.Denot g.row.S.Denot). s.readiness) c.self-in-ready.view_is ∙ c.ready.invariant.1 in
    let counted = c.ready-index-end.ensures ∙ ap (λ (s : FleetState g.row.P-Ids.Denot g.row.L.Denot g.row.S.Denot). all s.readiness) c.self.view_is in
    let low : index < length found = subst (λ (l : List Ready). index < length l) counted c.ready-test.true in (
      each_after m c.args.self.now.devices c.self-in-ready.inside.devices new.devices None (rw (← c.self-in-ready.view_is) at c.ready.invariant.0) c.in-None.ensures.each,
      ap (λ (s : FleetState g.row.P-Ids.Denot g.row.L.Denot g.row.S.Denot). s.readiness) c.in-None.ensures.rest ∙ now,
      ap (λ (s : FleetState g.row.P-Ids.Denot g.row.L.Denot g.row.S.Denot). s.taken) c.in-None.ensures.rest ∙ search rules,
      follows_next m c.args.self.now.devices c.self-in-ready.inside.devices new.devices found c.ready-in-ready.result.now c.args.self.now.taken index Peer
          (c.ready-in-ready.ensures ∙ ap all now) low c.in-None.ensures.takes (rw (← c.self-in-ready.view_is) at c.ready.invariant.3),
    )

pub returns-clause-takes : goal.returns-clause-takes
returns-clause-takes g c =
    let m = fleet_by g.P.Protocol.protocol (meaning_of g.L.Ends.input g.L.Ends.output g.L.Ends.line) g.L.PolledLink.not_ready in
    let all = g.S.Readiness.found in
    let found = all c.args.self.now.readiness in
    let counted = c.ready-index-end.ensures ∙ ap (λ (s : FleetState g.row.P-Ids.Denot g.row.L.Denot g.row.S.Denot). all s.readiness) c.self.view_is in
    none_last m c.args.self.now.devices c.ready.self.devices found _ c.args.self.now.taken c.ready.index
    (waiting_is all c.ready.self c.args.self.now.readiness c.ready.index c.ready.invariant.1 c.ready.invariant.2)
    (subst (λ (l : List Ready). length l ≤ c.ready.index) counted c.ready-test.false) c.ready.invariant.3
