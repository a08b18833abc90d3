use Rattle.std.proofs.Common.{subst, arith}
use Rattle.modbus_client.specs.LineReading.{DropsFront, TakesReply}
use Rattle.modbus_client.proofs.LineLooks.{looks_taken, looks_failed, takes_own}
use Rattle.modbus_client.proofs.line.look_by.Goals as goal

pub returns-in-Ok-clause-looks : goal.returns-in-Ok-clause-looks
returns-in-Ok-clause-looks g c =
    let judge = g.J.Judge.verdict in
    let means = g.R.Reading.means in
    let held = c.drop_front-dropped.new.held.items in
    let dropped = c.drop_front-dropped.result.0 in
    let d = subst (λ found. DropsFront (judge c.args.asked.slave_id) c.args.asked.slave_id c.args.held.now.items held dropped found) c.in-Some.is c.drop_front-dropped.ensures in
    let takes = subst (λ result. TakesReply means c.args.asked.slave_id c.in-Some.pdu_len held c.take_reply.new.held.items result) c.in-Ok.is c.take_reply.ensures in
    looks_taken judge means c.args.asked c.args.held.now.items held dropped c.args.others.now c.saturating_add.result
    (omega (arith, c.saturating_add.ensures)) c.in-Some.pdu_len d c.take_reply.new.held.items c.in-Ok.reply takes

pub returns-in-Err-clause-looks : goal.returns-in-Err-clause-looks
returns-in-Err-clause-looks g c =
    let judge = g.J.Judge.verdict in
    let means = g.R.Reading.means in
    let held = c.drop_front-dropped.new.held.items in
    let dropped = c.drop_front-dropped.result.0 in
    let d = subst (λ found. DropsFront (judge c.args.asked.slave_id) c.args.asked.slave_id c.args.held.now.items held dropped found) c.in-Some.is c.drop_front-dropped.ensures in
    let takes = subst (λ result. TakesReply means c.args.asked.slave_id c.in-Some.pdu_len held c.take_reply.new.held.items result) c.in-Err.is c.take_reply.ensures in
    looks_failed judge means c.args.asked c.args.held.now.items held dropped c.args.others.now c.saturating_add.result
    (omega (arith, c.saturating_add.ensures)) c.in-Some.pdu_len d c.take_reply.new.held.items c.in-Err.error takes

pub returns-in-Err-clause-own : goal.returns-in-Err-clause-own
returns-in-Err-clause-own g c =
    let means = g.R.Reading.means in
    let takes = subst (λ result. TakesReply means c.args.asked.slave_id c.in-Some.pdu_len c.drop_front-dropped.new.held.items c.take_reply.new.held.items result) c.in-Err.is c.take_reply.ensures in
    takes_own means c.args.asked.slave_id c.in-Some.pdu_len c.drop_front-dropped.new.held.items c.take_reply.new.held.items c.in-Err.error takes
