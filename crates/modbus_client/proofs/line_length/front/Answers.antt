use Rattle.std.proofs.Common.{sym, arith}
use Rattle.std.proofs.lemmas.List.{take_all}
use Rattle.modbus_client.proofs.line_length.front.Goals as goal

pub returns-then-adu-most : goal.returns-then-adu-most
returns-then-adu-most c = sym (take_all c.args.most c.args.adu.now (omega (arith, c.if-adu-most.true)))
