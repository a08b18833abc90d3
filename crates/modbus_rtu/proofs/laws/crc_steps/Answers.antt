use Rattle.std.proofs.Common.{◌+◌, ◌*◌, ◌^◌, ◌<◌, refl, sym, ap, ◌∙◌, arith}
use Rattle.std.specs.Prelude.{bit_xor, ◌%◌, ◌/◌}
use Rattle.std.proofs.lemmas.Nat.{xor_lt}
use Rattle.modbus_rtu.proofs.ByteSteps.{byte_step, four_byte_step}
use Rattle.modbus_rtu.proofs.Table.{entry, entry_of_two, entry_of_three, entry_of_four, entry_at}
use Rattle.modbus_rtu.proofs.laws.crc_steps.Goals as goal

pub returns-clause-bits : goal.returns-clause-bits
returns-clause-bits c = byte_step

pub returns-clause-entries : goal.returns-clause-entries
returns-clause-entries c = entry_at

pub returns-clause-table : goal.returns-clause-table
returns-clause-table c = λ register byte small.
    byte_step register byte small
    ∙ ap (bit_xor (register / 256)) (sym (entry (bit_xor register byte % 256) (bit_xor register byte % 256) (omega arith) refl))

pub returns-clause-four : goal.returns-clause-four
returns-clause-four x = λ register a b c d small first second third fourth.
    let word = bit_xor register (b * 256 + a) in
    let within : word < 2 ^ 16 = xor_lt 16 register (b * 256 + a) small (omega arith) in
    four_byte_step register a b c d first third
    ∙ rw (entry_of_three (word / 256) (word / 256) (omega arith) refl, entry_of_four (word % 256) (word % 256) (omega arith) refl, entry d d fourth refl, entry_of_two c c third refl) refl
