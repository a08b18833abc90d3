use Rattle.std.proofs.Common.{◌∙◌, arith, refl}
use Rattle.modbus_client.proofs.Polling.{flushed_all, flushed_some, flush_failed, polled_idle, polled_answer, goes_on, out_of_turns}
use Rattle.modbus_client.specs.Call.{holding}
use Rattle.modbus_client.proofs.Turning.{still_holding}
use Rattle.modbus_client.proofs.drive.poll.Goals as goal

pub returns-in-Err-clause-polled : goal.returns-in-Err-clause-polled
returns-in-Err-clause-polled g c =
    flush_failed g.P.Protocol.protocol _ _ _ _ _ _ (holding c.args.call.now c.args.held.now) (holding c.flush.new.self c.args.held.now) c.flush.ensures.flushes.source c.flush.ensures.flushes.sends (still_holding c.args.call.now c.flush.new.self c.args.held.now c.flush.ensures.keeps) c.flush.ensures.flushes.later c.in-Err.ensures.flushes.all c.in-Err.ensures.flushes.cause

pub returns-in-Ok-Pending-clause-polled : goal.returns-in-Ok-Pending-clause-polled
returns-in-Ok-Pending-clause-polled g c =
    let found = rw c.in-Ok-Pending.field-0-is at c.in-Ok-Pending.ensures in
    flushed_some g.P.Protocol.protocol _ _ _ _ _ _ (holding c.args.call.now c.args.held.now) (holding c.flush.new.self c.args.held.now) c.flush.ensures.flushes.source c.flush.ensures.flushes.sends (still_holding c.args.call.now c.flush.new.self c.args.held.now c.flush.ensures.keeps) c.flush.ensures.flushes.later found.flushes.waited

pub turns-init : goal.turns-init
turns-init g c =
    let found = rw c.in-Ok-Ready.field-0-is at c.in-Ok-Ready.ensures in
    record {
      going = flushed_all g.P.Protocol.protocol _ _ _ _ _ _ (holding c.args.call.now c.args.held.now) (holding c.flush.new.self c.args.held.now) c.flush.ensures.flushes.source c.flush.ensures.flushes.sends (still_holding c.args.call.now c.flush.new.self c.args.held.now c.flush.ensures.keeps) c.flush.ensures.flushes.later found.flushes.all;
      line = c.flush.ensures.line;
    }

pub returns-in-Pending-clause-polled : goal.returns-in-Pending-clause-polled
returns-in-Pending-clause-polled g c =
    polled_idle g.P.Protocol.protocol _ _ _ _ _ _ _ _ _ (holding c.args.call.now c.args.held.now) (holding c.turns.call c.turns.held) (holding c.turn.new.call c.turn.new.held) c.turns.invariant.going c.turn.ensures.later c.in-Pending.ensures.turned (c.in-Pending.ensures.waited refl)

pub returns-in-Ready-Some-clause-polled : goal.returns-in-Ready-Some-clause-polled
returns-in-Ready-Some-clause-polled g c =
    polled_answer g.P.Protocol.protocol _ _ _ _ _ _ _ _ _ (holding c.args.call.now c.args.held.now) (holding c.turns.call c.turns.held) (holding c.turn.new.call c.turn.new.held) c.turns.invariant.going c.turn.ensures.later (c.may_read.ensures.0 c.turns-test.true) c.in-Ready-Some.answer
    (rw c.in-Ready-Some.field-0-is at c.in-Ready-Some.ensures.turned)

pub turns-preserved : goal.turns-preserved
turns-preserved g c =
    record {
      going = goes_on g.P.Protocol.protocol _ _ _ _ _ _ _ _ _ (holding c.args.call.now c.args.held.now) (holding c.turns.call c.turns.held) (holding c.turn.new.call c.turn.new.held) c.turns.invariant.going c.turn.ensures.later (c.may_read.ensures.0 c.turns-test.true)
          (rw c.in-Ready-None.field-0-is at c.in-Ready-None.ensures.turned);
      line = c.turn.ensures.line ∙ c.turns.invariant.line;
    }

pub returns-clause-polled : goal.returns-clause-polled
returns-clause-polled g c = out_of_turns g.P.Protocol.protocol _ _ _ _ _ _ (holding c.args.call.now c.args.held.now) (holding c.turns.call c.turns.held) c.turns.invariant.going (λ less. absurd (cc (c.turns-test.false, c.may_read.ensures.1 less)))

pub turns-smaller : goal.turns-smaller
turns-smaller g c =
    let turned = rw c.in-Ready-None.field-0-is at c.in-Ready-None.ensures.turned in
    let reads = turned.reads in
    let one = turned.spends in
    let turns = turned.same.turns in
    let less = c.may_read.ensures.0 c.turns-test.true in
    omega (arith, reads, one, turns, less)
