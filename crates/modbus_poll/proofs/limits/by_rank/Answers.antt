use Rattle.std.proofs.Common.{rules}
use Rattle.std.proofs.lemmas.List.Sorted.{IsNonDecreasingBy-from_sort_by_key}
use Rattle.modbus_poll.specs.Spans.{rank}
use Rattle.modbus_poll.proofs.limits.by_rank.Goals as goal

pub returns : goal.returns
returns c = (
  search rules,
  IsNonDecreasingBy-from_sort_by_key rank _ c.sort_unstable_by_key.ensures.sorted (λ a r q k. search rules),
)
