use Rattle.modbus_store.proofs.Keeps.{rings}
use Rattle.modbus_store.proofs.waiting.mark.Goals as goal
use Rattle.std.proofs.Common.{arith, bit_or}

pub fetch_or-requires : goal.fetch_or-requires
fetch_or-requires c = (c.requires.0, omega (arith, c.args.bell.below, c.requires.1.0), rings _ _ _ c.args.seat.now.me c.args.bell.word (λ n. bit_or n 1) c.args.bell.above)
