use Rattle.std.proofs.Common.{sym, ◌∙◌}
use Rattle.modbus_poll.specs.Spans.{is_allowed}
use Rattle.modbus_poll.proofs.Positions.{all_pass}
use Rattle.modbus_poll.proofs.limits.plan_spans.Goals as goal

pub plan_allowed-requires : goal.plan_allowed-requires
plan_allowed-requires c = all_pass (is_allowed c.args.limits) c.args.spans.now (sym c.first_over.ensures ∙ c.in-None.is)
