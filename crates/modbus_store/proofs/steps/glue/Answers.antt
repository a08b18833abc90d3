use Rattle.std.proofs.Common.{arith}
use Rattle.modbus_store.proofs.Passing.{joins}
use Rattle.modbus_store.proofs.steps.glue.Goals as goal

pub join_seat-requires : goal.join_seat-requires
join_seat-requires c = (c.requires.desk.0, c.requires.desk.1, c.requires.other.1, omega arith, joins _ _ c.args.seat.now.me.0 _ c.args.other.me.0 c.requires.other.0)
