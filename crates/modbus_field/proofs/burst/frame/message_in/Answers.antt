use Rattle.std.proofs.Common.{arith}
use Rattle.modbus_field.proofs.Said.{said_parts}
use Rattle.modbus_field.proofs.burst.frame.message_in.Goals as goal

pub returns-in-Some-clause-says : goal.returns-in-Some-clause-says
returns-in-Some-clause-says c = λ some.
    let e = c.in-Some.ensures in
    let few = c.if-burst-ge-MOST_READ.false in
    said_parts c.args.burst.now c.in-Some.frame.length c.in-Some.frame.is_reply c.part_of.result (grind (arith, few)) e.0 e.1 e.2 e.3 c.part_of.ensures
