use Rattle.std.proofs.Common.{◌≡◌, None, sym, subst}
use Rattle.modbus_poll.specs.declared.span.Limits.{Limits}
use Rattle.modbus_map.specs.Planning.{first_over}
use Rattle.modbus_map.proofs.Planning.{none_over}
use Rattle.modbus_map.proofs.gathering.plan_in.Goals as goal

pub plan_reached-requires : goal.plan_reached-requires
plan_reached-requires c =
    subst (λ (limits : Limits). first_over limits c.args.table c.args.points.now ≡ None) (sym c.limits_in.ensures)
    (none_over c.args.limits c.args.table c.args.points.now c.requires)
