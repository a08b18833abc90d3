use Rattle.std.proofs.Common.{◌≡◌, ◌≤◌, nat_lt, false, ◌∙◌, arith}
use Rattle.std.proofs.lemmas.Bool.Decides.{nat_tests}
use Rattle.modbus_map.proofs.Bits.{none_above}
use Rattle.modbus_map.proofs.value.is_bit_set.Goals as goal

pub returns-else-place-lt16 : goal.returns-else-place-lt16
returns-else-place-lt16 c =
    let high : 16 ≤ c.args.place = c.if-place-lt16.false in
    let no : nat_lt c.args.place 16 ≡ false = grind (arith, nat_tests) in
    no ∙ none_above c.args.word c.args.place c.requires high
