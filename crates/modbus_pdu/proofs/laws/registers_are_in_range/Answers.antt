use Rattle.std.proofs.Common.{arith}
use Rattle.std.proofs.lemmas.List.Elements.{All-from_get_or, recursion_from_All}
use Rattle.modbus_pdu.specs.Laws.{IsWord}
use Rattle.modbus_pdu.proofs.laws.registers_are_in_range.Goals as goal

pub returns : goal.returns
returns c =
    let registers = c.args.registers.now in
    recursion_from_All IsWord registers (All-from_get_or IsWord registers 0 (λ i lt. omega (arith, c.type_inv.registers i)))
