use Rattle.std.proofs.Common.{rules, refl, arith}
use Rattle.modbus_server.proofs.Moved.{reads_none, fills_nothing, fills_fault, fills_more, fills_ended, fills_cut_short}
use Rattle.modbus_server.proofs.drive.read_more.Goals as goal

pub returns-then-is_err-clause-reads : goal.returns-then-is_err-clause-reads
returns-then-is_err-clause-reads g c = reads_none g.I.Framing.framing _ _ _ _ refl (search rules) (search rules)

pub returns-in-Err-clause-reads : goal.returns-in-Err-clause-reads
returns-in-Err-clause-reads g c =
    fills_fault g.I.Framing.framing _ _ _ _ c.args.connection.now c.make_room.new.self c.fill.new.self c.make_room.ensures.keeps c.fill.ensures.keeps _ _
    (rw c.in-Err.is at c.fill.ensures.fills) (search rules)

pub returns-in-Ok-Pending-clause-reads : goal.returns-in-Ok-Pending-clause-reads
returns-in-Ok-Pending-clause-reads g c =
    fills_nothing g.I.Framing.framing _ _ _ _ c.args.connection.now c.make_room.new.self c.fill.new.self c.make_room.ensures.keeps c.fill.ensures.keeps
    (rw c.in-Ok-Pending.field-0-is at c.in-Ok-Pending.ensures.fills)

pub returns-then-count-gt0-clause-reads : goal.returns-then-count-gt0-clause-reads
returns-then-count-gt0-clause-reads g c =
    fills_more g.I.Framing.framing _ _ _ _ c.args.connection.now c.make_room.new.self c.fill.new.self c.make_room.ensures.keeps c.fill.ensures.keeps
    c.in-Ok-Ready.count (search rules) (rw c.in-Ok-Ready.field-0-is at c.in-Ok-Ready.ensures.fills)

pub returns-then-end-clause-reads : goal.returns-then-end-clause-reads
returns-then-end-clause-reads g c =
    fills_ended g.I.Framing.framing _ _ _ _ c.args.connection.now c.make_room.new.self c.fill.new.self c.make_room.ensures.keeps c.fill.ensures.keeps
    c.end.new.self c.in-Ok-Ready.count (omega (arith, c.if-count-gt0.false)) (rw c.in-Ok-Ready.field-0-is at c.in-Ok-Ready.ensures.fills) (c.end.ensures.empty.0 c.if-end.true) c.end.ensures.keeps

pub returns-else-end-clause-reads : goal.returns-else-end-clause-reads
returns-else-end-clause-reads g c =
    fills_cut_short g.I.Framing.framing _ _ _ _ c.args.connection.now c.make_room.new.self c.fill.new.self c.make_room.ensures.keeps c.fill.ensures.keeps
    c.end.new.self c.in-Ok-Ready.count (omega (arith, c.if-count-gt0.false)) (rw c.in-Ok-Ready.field-0-is at c.in-Ok-Ready.ensures.fills) (λ none. cc (c.end.ensures.empty.1 none, c.if-end.false)) c.end.ensures.keeps
