use Rattle.std.proofs.Common.{arith, rules, ◌<◌, refl}
use borrow.Author.Tests.{ltb-true, ltb-false}
use Rattle.modbus_server.proofs.Polling.{begun, begun_pending, begun_failed, polled_paused, read_on, answered_on, silent_on, polled_error, polled_hungry, polled_ended, polled_spent}
use Rattle.modbus_server.proofs.polled.poll_connection.Goals as goal

pub returns-in-Err : goal.returns-in-Err
returns-in-Err g c =
    begun_failed g.I.Framing.framing g.V.Answerer.answering c.args.messages c.args.connection.now c.send.new.connection _ _ _ _ _ _ _ _ c.send.ensures.source c.send.ensures.sends c.send.ensures.later c.requires c.in-Err.error c.in-Err.ensures.writes c.in-Err.ensures.cause

pub returns-in-Ok-Pending : goal.returns-in-Ok-Pending
returns-in-Ok-Pending g c =
    let found = rw c.in-Ok-Pending.field-0-is at c.in-Ok-Pending.ensures in
    begun_pending g.I.Framing.framing g.V.Answerer.answering c.args.messages c.args.connection.now c.send.new.connection _ _ _ _ _ _ _ _ c.send.ensures.source c.send.ensures.sends c.send.ensures.later c.requires found.waited found.writes

pub steps-init : goal.steps-init
steps-init g c =
    begun g.I.Framing.framing g.V.Answerer.answering c.args.messages c.args.connection.now c.send.new.connection _ _ _ _ _ _ _ _ c.send.ensures.source c.send.ensures.sends c.send.ensures.later c.requires c.in-Ok-Ready.field-0-0 (rw c.in-Ok-Ready.field-0-is at c.in-Ok-Ready.ensures.writes)

pub returns-then-are_used_up : goal.returns-then-are_used_up
returns-then-are_used_up g c =
    polled_spent g.I.Framing.framing g.V.Answerer.answering _ _ _ _ _ _ _ _ _ _ _ _ _ _ (c.are_used_up.ensures.none (search rules)) c.steps.invariant

pub returns-in-Err-poll_step : goal.returns-in-Err-poll_step
returns-in-Err-poll_step g c =
    polled_error g.I.Framing.framing g.V.Answerer.answering _ _ _ _ _ _ _ _ _ _ _ _ _ _ _ _ _ _ _ _ c.steps.invariant c.poll_step.ensures.later (c.are_used_up.ensures.more (search rules)) _ (λ e. ltb-true 0 c.steps.left e) (λ e. omega (arith, ltb-false 0 c.steps.left e)) c.in-Err-poll_step.error c.in-Err-poll_step.ensures.steps

pub returns-in-Ok-Pending-poll_step : goal.returns-in-Ok-Pending-poll_step
returns-in-Ok-Pending-poll_step g c =
    let found = rw c.in-Ok-Pending-poll_step.field-0-is at c.in-Ok-Pending-poll_step.ensures in
    polled_paused g.I.Framing.framing g.V.Answerer.answering _ _ _ _ _ _ _ _ _ _ _ _ _ _ _ _ _ _ _ _ c.steps.invariant c.poll_step.ensures.later (c.are_used_up.ensures.more (search rules)) refl found.steps found.waited

pub returns-in-Ok-Ready-Hungry : goal.returns-in-Ok-Ready-Hungry
returns-in-Ok-Ready-Hungry g c =
    polled_hungry g.I.Framing.framing g.V.Answerer.answering _ _ _ _ _ _ _ _ _ _ _ _ _ _ _ _ _ _ _ _ c.steps.invariant c.poll_step.ensures.later (c.are_used_up.ensures.more (search rules)) _ (λ e. ltb-true 0 c.steps.left e) (λ e. omega (arith, ltb-false 0 c.steps.left e)) _ (search rules) (rw (c.in-Ok-Ready-Hungry.field-0-is, c.in-Ok-Ready-Hungry.field-0-0-is) at c.in-Ok-Ready-Hungry.ensures.steps)

pub returns-in-Ok-Ready-Ended : goal.returns-in-Ok-Ready-Ended
returns-in-Ok-Ready-Ended g c =
    polled_ended g.I.Framing.framing g.V.Answerer.answering _ _ _ _ _ _ _ _ _ _ _ _ _ _ _ _ _ _ _ _ c.steps.invariant c.poll_step.ensures.later (c.are_used_up.ensures.more (search rules)) _ (λ e. ltb-true 0 c.steps.left e) (λ e. omega (arith, ltb-false 0 c.steps.left e)) (rw (c.in-Ok-Ready-Ended.field-0-is, c.in-Ok-Ready-Ended.field-0-0-is) at c.in-Ok-Ready-Ended.ensures.steps)

pub steps-preserved-in-Ok-Ready-MoreRead : goal.steps-preserved-in-Ok-Ready-MoreRead
steps-preserved-in-Ok-Ready-MoreRead g c =
    let step = rw (c.in-Ok-Ready-MoreRead.field-0-is, c.in-Ok-Ready-MoreRead.field-0-0-is) at c.in-Ok-Ready-MoreRead.ensures.steps in
    let some : 0 < c.steps.left = ltb-true 0 c.steps.left step.leaves.4 in
    read_on g.I.Framing.framing g.V.Answerer.answering _ _ _ _ _ _ _ _ _ _ _ _ _ _ _ _ _ _ _ _ c.steps.invariant c.poll_step.ensures.later (c.are_used_up.ensures.more (search rules)) _ (omega (arith, some)) step

pub steps-preserved-in-Ok-Ready-Answered : goal.steps-preserved-in-Ok-Ready-Answered
steps-preserved-in-Ok-Ready-Answered g c =
    answered_on g.I.Framing.framing g.V.Answerer.answering _ _ _ _ _ _ _ _ _ _ _ _ _ _ _ _ _ _ _ _ c.steps.invariant c.poll_step.ensures.later (c.are_used_up.ensures.more (search rules)) c.take_one-messages.result c.take_one-messages.ensures _ refl (rw (c.in-Ok-Ready-Answered.field-0-is, c.in-Ok-Ready-Answered.field-0-0-is) at c.in-Ok-Ready-Answered.ensures.steps)

pub steps-preserved : goal.steps-preserved
steps-preserved g c =
    silent_on g.I.Framing.framing g.V.Answerer.answering _ _ _ _ _ _ _ _ _ _ _ _ _ _ _ _ _ _ _ _ c.steps.invariant c.poll_step.ensures.later (c.are_used_up.ensures.more (search rules)) c.take_one-messages-in-Ok-Ready-Silent.result c.take_one-messages-in-Ok-Ready-Silent.ensures _ refl (rw (c.in-Ok-Ready-Silent.field-0-is, c.in-Ok-Ready-Silent.field-0-0-is) at c.in-Ok-Ready-Silent.ensures.steps)
