use Rattle.std.proofs.Common.{◌∙◌, ap, Err}
use Rattle.modbus_app.proofs.Planned.{none_bad}
use Rattle.modbus_app.proofs.plan.plan_of.Goals as goal

-- src/plan.rt:91:39
pub unreachable-requires : goal.unreachable-requires
unreachable-requires c =
    let k = c.in-Err-BadItem.field-0-0 in
    none_bad c.args.items.now k c.requires
    ((c.plan_reads.ensures.bad_item k).0 (c.in-Err-BadItem.is ∙ ap Err c.in-Err-BadItem.field-0-is))
