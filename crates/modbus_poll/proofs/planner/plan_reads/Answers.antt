use Rattle.std.proofs.Common.{sym, ◌∙◌}
use Rattle.modbus_poll.specs.Items.{is_readable}
use Rattle.modbus_poll.proofs.Positions.{all_pass}
use Rattle.modbus_poll.proofs.planner.plan_reads.Goals as goal

pub plan_readable-requires : goal.plan_readable-requires
plan_readable-requires c = all_pass is_readable c.args.items.now (sym c.first_bad.ensures ∙ c.in-None.is)
