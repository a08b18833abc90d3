use Rattle.std.proofs.Common.{◌≡◌, ◌∙◌, not, List, None, Err, ap, sym, subst, rules}
use Rattle.std.specs.List.{position}
use Rattle.modbus_poll.specs.declared.span.Span.{Span}
use Rattle.modbus_poll.specs.Spans.{is_allowed}
use Rattle.modbus_map.specs.Gathering.{spans_in}
use Rattle.modbus_map.proofs.Planning.{no_span, nowhere}
use Rattle.modbus_map.proofs.device_plan.plan_reached.Goals as goal

pub unreachable-requires : goal.unreachable-requires
unreachable-requires c =
    let k = c.in-Err-BadItem.field-0-0 in
    let same : c.as_slice.result.now ≡ spans_in c.args.table c.args.points.now = search rules in
    nowhere (position (λ span. not (is_allowed c.args.limits span)) c.as_slice.result.now) k
    (subst (λ (spans : List Span). position (λ span. not (is_allowed c.args.limits span)) spans ≡ None) (sym same)
    (no_span c.args.limits c.args.table c.args.points.now c.requires))
    ((c.plan_spans.ensures.bad_item k).0 (c.in-Err-BadItem.is ∙ ap Err c.in-Err-BadItem.field-0-is))
