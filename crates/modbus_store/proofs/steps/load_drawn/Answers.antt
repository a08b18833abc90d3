use Rattle.std.proofs.Common.{arith}
use Rattle.modbus_store.proofs.Passing.{loads}
use Rattle.modbus_store.proofs.steps.load_drawn.Goals as goal

pub load-requires : goal.load-requires
load-requires c = (c.requires.desk.0, omega arith, loads _ _ _ c.args.seat.now.me)
