use Rattle.std.proofs.Common.{◌≡◌, ◌*◌, take}
use Rattle.modbus_pdu.specs.Word.{words}
use Rattle.modbus_pdu.proofs.writing.write_words.Given as goal

abbrev pub invariant-loop-i : goal.invariant-loop-i
invariant-loop-i l = take (2 * l.i) l.bytes ≡ words (take l.i l.numbers)
