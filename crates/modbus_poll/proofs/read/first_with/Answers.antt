use Rattle.std.proofs.Common.{◌≡◌, true, false, ltb, sym, subst, ◌∙◌, rules, arith}
use Rattle.std.proofs.lemmas.Bool.{ltb-false}
use Rattle.std.proofs.lemmas.List.Sorted.{IsPartitionPoint-from_clause, IsPartitionedBy-ltb}
use Rattle.modbus_poll.specs.declared.read.Read.{Read}
use Rattle.modbus_poll.specs.Items.{read_end}
use Rattle.modbus_poll.specs.Spans.{span_end, is_within}
use Rattle.modbus_poll.proofs.Positions.{none_past, found_there, none_there}
use Rattle.modbus_poll.proofs.read.first_with.Goals as goal

pub returns-in_err-read : goal.returns-in_err-read
returns-in_err-read c =
    let parted = IsPartitionedBy-ltb read_end _ (span_end c.args.span.now) c.requires.1 in
    let point = IsPartitionPoint-from_clause (λ r. ltb (read_end r) (span_end c.args.span.now)) _ _ c.partition_point-place.ensures.partitioned parted (λ a r q k. search rules) in
    c.from_residual.ensures ∙ sym (none_past c.args.span.now c.args.reads.now c.partition_point-place.result point.0 c.in_err-read.ensures.lookup.3)

pub returns-then-includes : goal.returns-then-includes
returns-then-includes c =
    let parted = IsPartitionedBy-ltb read_end _ (span_end c.args.span.now) c.requires.1 in
    let point = IsPartitionPoint-from_clause (λ r. ltb (read_end r) (span_end c.args.span.now)) _ _ c.partition_point-place.ensures.partitioned parted (λ a r q k. search rules) in
    let at = c.in_ok-read.ensures.lookup.3 in
    sym (found_there c.args.span.now c.args.reads.now c.partition_point-place.result point.0 at.0 (λ d. subst (λ (r : Read). is_within c.args.span.now r ≡ true) (at.1 d) (sym c.if-includes.ensures)))

pub returns-else-includes : goal.returns-else-includes
returns-else-includes c =
    let parted = IsPartitionedBy-ltb read_end _ (span_end c.args.span.now) c.requires.1 in
    let point = IsPartitionPoint-from_clause (λ r. ltb (read_end r) (span_end c.args.span.now)) _ _ c.partition_point-place.ensures.partitioned parted (λ a r q k. search rules) in
    let at = c.in_ok-read.ensures.lookup.3 in
    sym (none_there c.args.span.now c.args.reads.now c.partition_point-place.result point.0 c.requires at.0
    (λ d. ltb-false _ _ (point.1 c.partition_point-place.result d (omega arith) at.0))
    (λ d. subst (λ (r : Read). is_within c.args.span.now r ≡ false) (at.1 d) (sym c.if-includes.ensures)))
