use Rattle.std.proofs.Common.{arith}
use Rattle.modbus_store.proofs.Passing.{splits}
use Rattle.modbus_store.proofs.steps.copy.Goals as goal

pub split_seat-requires : goal.split_seat-requires
split_seat-requires c = (c.requires.desk.0, omega arith, splits _ _ c.args.seat.now.me.0 c.args.number c.requires.number.0 c.requires.number.1)
