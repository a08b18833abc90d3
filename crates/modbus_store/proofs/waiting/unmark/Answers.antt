use Rattle.modbus_store.proofs.Keeps.{rings}
use Rattle.modbus_store.proofs.waiting.unmark.Goals as goal
use Rattle.std.proofs.Common.{arith, eqb, ◌+◌, ◌%◌, ◌^◌}
use prog.Atomic.{either}

pub compare_exchange-requires : goal.compare_exchange-requires
compare_exchange-requires c = (c.requires.0, omega (arith, c.args.bell.below, c.requires.1.0), rings _ _ _ c.args.seat.now.me c.args.bell.word (λ n. either (eqb n c.peek-found.result) ((c.peek-found.result + 1) % 2 ^ 64) n) c.args.bell.above)
