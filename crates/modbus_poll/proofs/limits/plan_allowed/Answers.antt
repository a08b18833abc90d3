use Rattle.std.proofs.Common.{◌≡◌, true, List, [], sym, subst, rules}
use Rattle.std.specs.List.{AllPass}
use Rattle.std.proofs.lemmas.List.Sorted.{All-permutation}
use Rattle.modbus_poll.specs.declared.span.Span.{Span}
use Rattle.modbus_poll.specs.Spans.{is_allowed}
use Rattle.modbus_poll.specs.SpanPlans.{IsPlanWithin, FollowWithin}
use Rattle.modbus_poll.specs.RankOrder.{AreRanked}
use Rattle.modbus_poll.proofs.Ordered.{ok_more}
use Rattle.modbus_poll.proofs.Reading.{plan_moved, follow_moved}
use Rattle.modbus_poll.proofs.limits.plan_allowed.Goals as goal

pub plan_sorted-requires-clause-allowed : goal.plan_sorted-requires-clause-allowed
plan_sorted-requires-clause-allowed c =
    let same : c.as_slice.result.now ≡ c.in_ok-sorted.sorted.items = search rules in
    subst (λ (spans : List Span). AllPass (is_allowed c.args.limits) spans) (sym same)
    (All-permutation (λ span. is_allowed c.args.limits span ≡ true) c.args.spans.now c.in_ok-sorted.sorted.items c.in_ok-sorted.ensures.0 c.requires)

pub plan_sorted-requires-clause-ranked : goal.plan_sorted-requires-clause-ranked
plan_sorted-requires-clause-ranked c =
    let same : c.as_slice.result.now ≡ c.in_ok-sorted.sorted.items = search rules in
    subst (λ (spans : List Span). AreRanked spans) (sym same) c.in_ok-sorted.ensures.1

pub returns : goal.returns
returns c =
    let same : c.as_slice.result.now ≡ c.in_ok-sorted.sorted.items = search rules in
    let moved = c.in_ok-sorted.ensures.0 in
    ok_more (λ plan. IsPlanWithin c.args.limits c.as_slice.result.now plan × FollowWithin c.args.limits c.as_slice.result.now [] plan) _
    (λ plan made. (
      plan_moved c.args.limits c.args.spans.now c.in_ok-sorted.sorted.items moved plan (subst (λ (spans : List Span). IsPlanWithin c.args.limits spans plan) same made.0),
      follow_moved c.args.limits c.args.spans.now c.in_ok-sorted.sorted.items moved [] plan (subst (λ (spans : List Span). FollowWithin c.args.limits spans [] plan) same made.1),
    ))
    c.plan_sorted.result c.plan_sorted.ensures
