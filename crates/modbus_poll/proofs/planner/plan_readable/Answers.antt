use Rattle.std.proofs.Common.{◌≡◌, true, List, [], sym, subst, rules}
use Rattle.std.specs.List.{AllPass}
use Rattle.std.proofs.lemmas.List.Sorted.{All-permutation}
use Rattle.modbus_poll.specs.declared.item.Item.{Item}
use Rattle.modbus_poll.specs.Items.{is_readable}
use Rattle.modbus_poll.specs.Plans.{IsPlan, Follow}
use Rattle.modbus_poll.proofs.Ordered.{ok_more, plan_ordered, follow_ordered}
use Rattle.modbus_poll.proofs.planner.plan_readable.Goals as goal

pub plan_sorted-requires-clause-readable : goal.plan_sorted-requires-clause-readable
plan_sorted-requires-clause-readable c =
    let same : c.as_slice-2.result.now ≡ c.in_ok-sorted.sorted.items = search rules in
    subst (λ (items : List Item). AllPass is_readable items) (sym same)
    (All-permutation (λ item. is_readable item ≡ true) c.args.items.now c.in_ok-sorted.sorted.items c.in_ok-sorted.ensures.0 c.requires)

pub returns : goal.returns
returns c =
    let same : c.as_slice-2.result.now ≡ c.in_ok-sorted.sorted.items = search rules in
    let moved = c.in_ok-sorted.ensures.0 in
    ok_more (λ plan. IsPlan c.as_slice-2.result.now plan × Follow c.as_slice-2.result.now [] plan) _
    (λ plan planned. (
      plan_ordered c.args.items.now c.in_ok-sorted.sorted.items moved plan (subst (λ (items : List Item). IsPlan items plan) same planned.0),
      follow_ordered c.args.items.now c.in_ok-sorted.sorted.items moved [] plan (subst (λ (items : List Item). Follow items [] plan) same planned.1),
    ))
    c.plan_sorted.result c.plan_sorted.ensures
