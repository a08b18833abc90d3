use Rattle.std.proofs.Common.{◌≡◌, map, rules}
use Rattle.std.proofs.lemmas.List.Sorted.{IsNonDecreasingBy-from_sort}
use Rattle.modbus_poll.specs.Items.{item_end}
use Rattle.modbus_poll.proofs.planner.ends_of.Goals as goal

pub returns : goal.returns
returns c =
    let e : c.in_ok-ends.ends.items ≡ map item_end c.args.items.now = search rules in
    (rw (← e) c.sort_unstable.ensures.permutation, IsNonDecreasingBy-from_sort (λ x. x) _ c.sort_unstable.ensures.sorted)
