use Rattle.std.proofs.Common.{leb, rules}
use Rattle.std.proofs.lemmas.List.Sorted.{IsPartitionPoint-from_clause, IsPartitionedBy-leb}
use Rattle.modbus_poll.proofs.Ends.{some_allowed, greatest_allowed}
use Rattle.modbus_poll.proofs.planner.greatest_end.Goals as goal

pub overflow_sub-result : goal.overflow_sub-result
overflow_sub-result c =
    let parted = IsPartitionedBy-leb (λ x. x) _ c.args.limit c.requires.rising in
    let point = IsPartitionPoint-from_clause (λ x. leb x c.args.limit) _ _ c.partition_point-allowed.ensures.partitioned parted (λ a r q k. search rules) in
    some_allowed _ _ _ point.1 c.requires.some

pub returns : goal.returns
returns c =
    let parted = IsPartitionedBy-leb (λ x. x) _ c.args.limit c.requires.rising in
    let point = IsPartitionPoint-from_clause (λ x. leb x c.args.limit) _ _ c.partition_point-allowed.ensures.partitioned parted (λ a r q k. search rules) in
    greatest_allowed _ _ _ point.1 c.requires.rising (some_allowed _ _ _ point.1 c.requires.some) c.partition_point-allowed.ensures.bound point.0
