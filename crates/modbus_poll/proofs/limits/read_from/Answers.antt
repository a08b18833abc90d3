use Rattle.std.proofs.Common.{◌≡◌, ◌<◌, ◌≤◌, ◌+◌, ◌-◌, get_or, subst, sym, arith}
use Rattle.modbus_poll.specs.Items.{read_end}
use Rattle.modbus_poll.specs.Spans.{span_end}
use Rattle.modbus_poll.specs.SpanPlans.{IsLimited, GoesOn}
use Rattle.modbus_poll.specs.declared.span.Span.{Span}
use Rattle.modbus_poll.proofs.Tests.{allowed_some, allowed_most}
use Rattle.modbus_poll.proofs.limits.read_from.Goals as goal

pub overflow_cast-result : goal.overflow_cast-result
overflow_cast-result c =
    let some : Span = record { address = 0; count = 0 } in
    let goes_on = c.end_from-end.ensures.goes_on some in
    let most = goes_on.last.1.ends in
    let ends : span_end goes_on.last.0 ≡ c.end_from-end.result = goes_on.last.2 in
    let from = c.from.ensures in
    omega arith

pub returns-clause-goes_on : goal.returns-clause-goes_on
returns-clause-goes_on c =
    let some : Span = record { address = 0; count = 0 } in
    let holds : span_end (get_or c.args.spans.now c.args.place some) ≤ c.end_from-end.result = c.end_from-end.ensures.holds some in
    let address = (get_or c.args.spans.now c.args.place some).address in
    let ends : c.end_from-end.result ≡ address + (c.end_from-end.result - c.from.result) = omega (arith, c.from.ensures) in
    subst (λ e. GoesOn c.args.limits c.args.spans.now address e) ends (c.end_from-end.ensures.goes_on some)

pub returns-clause-limited : goal.returns-clause-limited
returns-clause-limited c =
    let some : Span = record { address = 0; count = 0 } in
    let holds : span_end (get_or c.args.spans.now c.args.place some) ≤ c.end_from-end.result = c.end_from-end.ensures.holds some in
    let count = allowed_some c.args.limits (get_or c.args.spans.now c.args.place some) (c.requires.allowed c.args.place some c.requires.within) in
    let goes_on = c.end_from-end.ensures.goes_on some in
    let most = goes_on.last.1.ends in
    let ends : span_end goes_on.last.0 ≡ c.end_from-end.result = goes_on.last.2 in
    record { some = omega (arith, c.from.ensures); most = omega (arith, c.from.ensures) }
