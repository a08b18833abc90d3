use Rattle.modbus_map.proofs.LastDigits.{without_more}
use Rattle.modbus_map.proofs.decimal_text.without_last.Goals as goal

pub loop-place-preserved : goal.loop-place-preserved
loop-place-preserved c = without_more c.args.number c.loop-place._place c.loop-place.rest c.loop-place.invariant
