use Rattle.std.proofs.Common.{rules, refl}
use Rattle.modbus_client.specs.Call.{holding}
use Rattle.modbus_client.proofs.Turning.{roomier, turned_none, turned_fault, turned_end, turned_some}
use Rattle.modbus_client.proofs.drive.turn.Goals as goal

pub returns-then-is_err-clause-turned : goal.returns-then-is_err-clause-turned
returns-then-is_err-clause-turned g c = turned_none g.P.Protocol.protocol _ _ _ _ _ _ _ refl refl (roomier c.args.call.now c.args.held.now c.make_room.new.held c.make_room.ensures.keeps)

pub returns-in-Err-clause-turned : goal.returns-in-Err-clause-turned
returns-in-Err-clause-turned g c = turned_fault g.P.Protocol.protocol _ _ _ _ _ _ _ (roomier c.args.call.now c.args.held.now c.make_room.new.held c.make_room.ensures.keeps) c.poll_read.ensures.sink c.poll_read.ensures.source _ _ _ c.in-Err.ensures.told c.in-Err.ensures.cause

pub returns-then-count-eq0-clause-turned : goal.returns-then-count-eq0-clause-turned
returns-then-count-eq0-clause-turned g c =
    let told = rw c.in-Ok-Ready.field-0-is at c.in-Ok-Ready.ensures.told in
    turned_end g.P.Protocol.protocol _ _ _ _ _ _ _ (roomier c.args.call.now c.args.held.now c.make_room.new.held c.make_room.ensures.keeps) c.poll_read.ensures.sink c.poll_read.ensures.source _ _ _ _ (search rules) told c.end.ensures

pub returns-else-count-eq0-clause-turned : goal.returns-else-count-eq0-clause-turned
returns-else-count-eq0-clause-turned g c =
    let told = rw c.in-Ok-Ready.field-0-is at c.in-Ok-Ready.ensures.told in
    turned_some g.P.Protocol.protocol _ _ _ _ _ _ (holding c.args.call.now c.make_room.new.held) _ _ _ _ _ _ (roomier c.args.call.now c.args.held.now c.make_room.new.held c.make_room.ensures.keeps) c.feed.ensures c.poll_read.ensures.sink c.poll_read.ensures.source told
    (search rules) (search rules) (search rules) (search rules)
