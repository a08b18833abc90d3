use Rattle.std.proofs.Common.{arith}
use Rattle.modbus_store.proofs.Keeps.{draws}
use Rattle.modbus_store.proofs.steps.draw_number.Goals as goal

pub compare_exchange-requires : goal.compare_exchange-requires
compare_exchange-requires c = (c.requires.desk.0, omega arith, draws _ _ _ c.args.seat.now.me c.args.number c.requires.none.0 c.requires.none.1)
