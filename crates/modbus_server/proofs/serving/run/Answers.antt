use Rattle.std.proofs.Common.{arith, ◌<◌}
use borrow.Author.Tests.{ltb-true, ltb-false}
use Rattle.modbus_server.proofs.Running.{going, ran_stopped, read_on, answered_on, silent_on, ran_error, ran_hungry, ran_ended}
use Rattle.modbus_server.proofs.serving.run.Goals as goal

pub steps-init : goal.steps-init
steps-init g c = going g.I.Framing.framing g.V.Answerer.answering g.X.Stop.stops g.X.Stop.looks c.args.service.now _ _ c.args.turns c.args.connection.now _ c.requires.empty c.requires.written c.requires.ready c.requires.stands

pub returns-then-is_set : goal.returns-then-is_set
returns-then-is_set g c =
    ran_stopped g.I.Framing.framing g.V.Answerer.answering g.X.Stop.stops g.X.Stop.looks _ _ _ _ _ _ _ _ _ _ _ _ c.steps.invariant (c.is_set.ensures.cause c.if-is_set.true) (rw c.if-is_set.true at c.is_set.ensures.looks)

pub returns-in-Err : goal.returns-in-Err
returns-in-Err g c =
    ran_error g.I.Framing.framing g.V.Answerer.answering g.X.Stop.stops g.X.Stop.looks _ _ _ _ _ _ _ _ _ _ _ _ _ _ _ _ _ c.steps.invariant c.is_set.ensures.later (rw c.if-is_set.false at c.is_set.ensures.looks) (λ e. ltb-true 0 c.steps.left e) (λ e. omega (arith, ltb-false 0 c.steps.left e)) c.in-Err.error c.in-Err.ensures

pub returns-in-Ok-Hungry : goal.returns-in-Ok-Hungry
returns-in-Ok-Hungry g c =
    ran_hungry g.I.Framing.framing g.V.Answerer.answering g.X.Stop.stops g.X.Stop.looks _ _ _ _ _ _ _ _ _ _ _ _ _ _ _ _ _ c.steps.invariant c.is_set.ensures.later (rw c.if-is_set.false at c.is_set.ensures.looks) (λ e. ltb-true 0 c.steps.left e) (λ e. omega (arith, ltb-false 0 c.steps.left e)) (rw c.in-Ok-Hungry.field-0-is at c.in-Ok-Hungry.ensures)

pub returns-in-Ok-Ended : goal.returns-in-Ok-Ended
returns-in-Ok-Ended g c =
    ran_ended g.I.Framing.framing g.V.Answerer.answering g.X.Stop.stops g.X.Stop.looks _ _ _ _ _ _ _ _ _ _ _ _ _ _ _ _ _ c.steps.invariant c.is_set.ensures.later (rw c.if-is_set.false at c.is_set.ensures.looks) (λ e. ltb-true 0 c.steps.left e) (λ e. omega (arith, ltb-false 0 c.steps.left e)) (rw c.in-Ok-Ended.field-0-is at c.in-Ok-Ended.ensures)

pub steps-preserved-in-Ok-MoreRead : goal.steps-preserved-in-Ok-MoreRead
steps-preserved-in-Ok-MoreRead g c =
    let step = rw c.in-Ok-MoreRead.field-0-is at c.in-Ok-MoreRead.ensures in
    let some : 0 < c.steps.left = ltb-true 0 c.steps.left step.leaves.4 in
    read_on g.I.Framing.framing g.V.Answerer.answering g.X.Stop.stops g.X.Stop.looks _ _ _ _ _ _ _ _ _ _ _ _ _ _ _ _ _ c.steps.invariant c.is_set.ensures.later (rw c.if-is_set.false at c.is_set.ensures.looks) _ (omega (arith, some)) step

pub steps-preserved-in-Ok-Answered : goal.steps-preserved-in-Ok-Answered
steps-preserved-in-Ok-Answered g c =
    answered_on g.I.Framing.framing g.V.Answerer.answering g.X.Stop.stops g.X.Stop.looks _ _ _ _ _ _ _ _ _ _ _ _ _ _ _ _ _ c.steps.invariant c.is_set.ensures.later (rw c.if-is_set.false at c.is_set.ensures.looks) (rw c.in-Ok-Answered.field-0-is at c.in-Ok-Answered.ensures)

pub steps-preserved : goal.steps-preserved
steps-preserved g c =
    silent_on g.I.Framing.framing g.V.Answerer.answering g.X.Stop.stops g.X.Stop.looks _ _ _ _ _ _ _ _ _ _ _ _ _ _ _ _ _ c.steps.invariant c.is_set.ensures.later (rw c.if-is_set.false at c.is_set.ensures.looks) (rw c.in-Ok-Silent.field-0-is at c.in-Ok-Silent.ensures)
