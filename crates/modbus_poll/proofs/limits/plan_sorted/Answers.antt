use Rattle.std.proofs.Common.{◌≡◌, ◌<◌, ◌≤◌, [], ◌∷◌, ◌++◌, get_or, ◌∙◌, sym, subst, arith}
use Rattle.std.proofs.lemmas.List.{get_or_default}
use Rattle.modbus_poll.specs.declared.span.Span.{Span}
use Rattle.modbus_poll.specs.Spans.{span_end}
use Rattle.modbus_poll.specs.Items.{read_end}
use Rattle.modbus_poll.proofs.Reading.{made_kept, made_more, all_made}
use Rattle.modbus_poll.proofs.Tests.{allowed_some}
use Rattle.modbus_poll.proofs.limits.plan_sorted.Goals as goal
use Rattle.modbus_poll.proofs.limits.plan_sorted.Goals.{then-end-reached+in_ok-push, else-end-reached}

pub loop-place-preserved : goal.loop-place-preserved
loop-place-preserved c =
    let within = c.loop-place-test.true in
    let some : Span = record { address = 0; count = 0 } in
    let span = get_or c.args.spans.now c.loop-place.place some in
    let at = λ (d : Span). get_or_default c.args.spans.now c.loop-place.place d some within in
    elim c.if-end-reached.branch [
      | then-end-reached+in_ok-push w ↦
          let more = made_more c.args.limits c.args.spans.now c.requires.allowed c.requires.ranked c.loop-place.place c.loop-place.plan c.loop-place.reached
          c.loop-place.invariant within span at
          (subst (λ n. c.loop-place.reached < n) c.end.ensures w.if-end-reached.true)
          w.read_from-read.result (w.read_from-read.ensures.begins some) (w.read_from-read.ensures.holds some) w.read_from-read.ensures.goes_on w.read_from-read.ensures.limited in
          let planned : c.if-end-reached.plan ≡ c.loop-place.plan ++ w.read_from-read.result ∷ [] = w.plan-is ∙ w.in_ok-push.ensures in
          let reached : c.if-end-reached.reached ≡ read_end w.read_from-read.result = w.reached-is ∙ w.end-reached.ensures in
          rw (planned, reached) more
      | else-end-reached w ↦
          let kept = made_kept c.args.limits c.args.spans.now c.requires.allowed c.requires.ranked c.loop-place.place c.loop-place.plan c.loop-place.reached
          c.loop-place.invariant within span at
          (allowed_some c.args.limits span (c.requires.allowed c.loop-place.place some within))
          (subst (λ n. n ≤ c.loop-place.reached) c.end.ensures w.if-end-reached.false) in
          rw (w.plan-is, w.reached-is) kept
    ]
