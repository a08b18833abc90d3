use Rattle.std.proofs.Common.{◌≡◌, true, false, ◌<◌, ◌≤◌, ◌+◌, length, get_or, sym, subst, ◌∙◌, ap, arith}
use Rattle.std.proofs.lemmas.List.{get_or_default}
use Rattle.modbus_poll.specs.declared.span.Span.{Span}
use Rattle.modbus_poll.specs.Spans.{span_end}
use Rattle.modbus_poll.specs.SpanPlans.{GoesOn}
use Rattle.modbus_poll.specs.RankOrder.{joins}
use Rattle.modbus_poll.proofs.Reaching.{Reached, reached_first, reached_kept, reached_more, ended_before, ended_last, at_behind, length_behind}
use Rattle.modbus_poll.proofs.Tests.{allowed_end}
use Rattle.modbus_poll.proofs.limits.end_from.Goals as goal
use Rattle.modbus_poll.proofs.limits.end_from.Goals.{then-end-further+else-not-joins, else-end-further}

pub loop-span-init : goal.loop-span-init
loop-span-init c =
    let some : Span = record { address = 0; count = 0 } in
    let first = get_or c.args.spans.now c.args.place some in
    let place : c.args.place + 1 ≡ c.args.place + 1 + 0 = omega arith in
    subst (λ n. Reached c.args.limits c.args.spans.now n first.address c.end-end.result) place
    (subst (λ e. Reached c.args.limits c.args.spans.now (c.args.place + 1) first.address e) (sym c.end-end.ensures)
    (reached_first c.args.limits c.args.spans.now c.requires.allowed c.requires.ranked c.args.place first c.requires.within
    (λ d. get_or_default c.args.spans.now c.args.place d some c.requires.within) c.requires.earlier
    (allowed_end c.args.limits first (c.requires.allowed c.args.place some c.requires.within))))

pub loop-span-preserved : goal.loop-span-preserved
loop-span-preserved c =
    let some : Span = record { address = 0; count = 0 } in
    let at_end = length_behind c.args.spans.now (c.args.place + 1) in
    let done = c.args.place + 1 + c.loop-span.span-index in
    let less : done < length c.args.spans.now = omega arith in
    let span = get_or c.args.spans.now done some in
    let at = λ (d : Span). get_or_default c.args.spans.now done d some less in
    let address = (get_or c.args.spans.now c.args.place some).address in
    let ends : c.end-further.result ≡ span_end span = c.end-further.ensures ∙ ap span_end (at_behind c.args.spans.now (c.args.place + 1) c.loop-span.span-index some) in
    let next : done + 1 ≡ c.args.place + 1 + (c.loop-span.span-index + 1) = omega arith in
    elim c.if-end-further.branch [
      | then-end-further+else-not-joins w ↦
          let here = at_behind c.args.spans.now (c.args.place + 1) c.loop-span.span-index some in
          let joined : joins c.args.limits address c.loop-span.end span ≡ true =
          sym (ap (joins c.args.limits address c.loop-span.end) here) ∙ sym w.joins.ensures ∙ w.if-not-joins.false in
          let more = reached_more c.args.limits c.args.spans.now c.requires.allowed c.requires.ranked done address c.loop-span.end c.loop-span.invariant span less at
          (subst (λ n. c.loop-span.end < n) ends w.if-end-further.true) joined (allowed_end c.args.limits span (c.requires.allowed done some less)) in
          rw (w.end-is, ends, ← next) more
      | else-end-further w ↦
          let kept = reached_kept c.args.limits c.args.spans.now c.requires.allowed c.requires.ranked done address c.loop-span.end c.loop-span.invariant span less at
          (subst (λ n. n ≤ c.loop-span.end) ends w.if-end-further.false) in
          rw (w.end-is, ← next) kept
    ]

pub returns-then-not-joins-clause-holds : goal.returns-then-not-joins-clause-holds
returns-then-not-joins-clause-holds c = λ d. c.loop-span.invariant.passed c.args.place (omega arith) d

pub returns-then-not-joins-clause-goes_on : goal.returns-then-not-joins-clause-goes_on
returns-then-not-joins-clause-goes_on c = λ d.
    let some : Span = record { address = 0; count = 0 } in
    let at_end = length_behind c.args.spans.now (c.args.place + 1) in
    let done = c.args.place + 1 + c.loop-span.span-index in
    let less : done < length c.args.spans.now = omega arith in
    let span = get_or c.args.spans.now done some in
    let at = λ (d' : Span). get_or_default c.args.spans.now done d' some less in
    let same = get_or_default c.args.spans.now c.args.place some d c.requires.within in
    let address = (get_or c.args.spans.now c.args.place some).address in
    let here = at_behind c.args.spans.now (c.args.place + 1) c.loop-span.span-index some in
    let apart : joins c.args.limits address c.loop-span.end span ≡ false =
    sym (ap (joins c.args.limits address c.loop-span.end) here) ∙ sym c.joins.ensures ∙ c.if-not-joins.true in
    subst (λ (x : Span). GoesOn c.args.limits c.args.spans.now x.address c.loop-span.end) same
    (ended_before c.args.limits c.args.spans.now c.requires.allowed c.requires.ranked done address c.loop-span.end c.loop-span.invariant span less at apart)

pub returns-clause-holds : goal.returns-clause-holds
returns-clause-holds c = λ d. c.loop-span.invariant.passed c.args.place (omega arith) d

pub returns-clause-goes_on : goal.returns-clause-goes_on
returns-clause-goes_on c = λ d.
    let some : Span = record { address = 0; count = 0 } in
    let at_end = length_behind c.args.spans.now (c.args.place + 1) in
    let done : c.args.place + 1 + c.loop-span.span-index ≡ length c.args.spans.now = omega arith in
    let same = get_or_default c.args.spans.now c.args.place some d c.requires.within in
    let address = (get_or c.args.spans.now c.args.place some).address in
    subst (λ (x : Span). GoesOn c.args.limits c.args.spans.now x.address c.loop-span.end) same
    (ended_last c.args.limits c.args.spans.now c.requires.allowed c.requires.ranked address c.loop-span.end
    (subst (λ n. Reached c.args.limits c.args.spans.now n address c.loop-span.end) done c.loop-span.invariant))
