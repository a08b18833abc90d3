use Rattle.std.proofs.Common.{ap, ◌∙◌}
use Rattle.modbus_fleet.specs.Fleet.{FleetState}
use Rattle.modbus_fleet.proofs.Expiring.{Looked, passed, none_below, found}
use Rattle.modbus_fleet.proofs.fleet.Fleet.expire.Goals as goal

pub keys-preserved : goal.keys-preserved
keys-preserved g c =
    let first = c.args.self.now.devices in
    let old = c.keys.self.devices in
    let new = c.expire_at.new.self.devices in
    let looked : Looked c.args.now c.keys.key old new c.expire_at.result = record { is_due = c.expire_at.ensures.due; gives_up = c.expire_at.ensures.gives_up; others = c.expire_at.ensures.others } in (
      none_below c.args.now c.keys.key first old new c.expire_at.result c.if-expire_at.false looked c.keys.invariant.1 c.keys.invariant.0,
      passed c.args.now c.keys.key first old new c.expire_at.result c.if-expire_at.false looked c.keys.invariant.1,
      c.expire_at.ensures.rest ∙ ap (λ (s : FleetState g.row.P-Ids.Denot g.row.L.Denot g.row.S.Denot). record s { devices = new }) c.keys.invariant.2,
    )

pub returns-then-expire_at-clause-expires : goal.returns-then-expire_at-clause-expires
returns-then-expire_at-clause-expires g c =
    found c.args.now c.keys.key c.args.self.now.devices c.keys.self.devices c.expire_at.new.self.devices c.expire_at.result c.if-expire_at.true
    (record { is_due = c.expire_at.ensures.due; gives_up = c.expire_at.ensures.gives_up; others = c.expire_at.ensures.others }) c.keys.invariant.1

pub returns-then-expire_at-clause-rest : goal.returns-then-expire_at-clause-rest
returns-then-expire_at-clause-rest g c = c.expire_at.ensures.rest ∙ ap (λ (s : FleetState g.row.P-Ids.Denot g.row.L.Denot g.row.S.Denot). record s { devices = c.expire_at.new.self.devices }) c.keys.invariant.2
