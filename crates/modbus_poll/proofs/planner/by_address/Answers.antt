use Rattle.std.proofs.Common.{rules}
use Rattle.std.proofs.lemmas.List.Sorted.{IsNonDecreasingBy-from_sort_by_key}
use Rattle.modbus_poll.specs.declared.item.Item.{Item}
use Rattle.modbus_poll.proofs.planner.by_address.Goals as goal

pub returns : goal.returns
returns c = (
  search rules,
  IsNonDecreasingBy-from_sort_by_key (λ (item : Item). item.address) _ c.sort_unstable_by_key.ensures.sorted (λ a r q k. search rules),
)
