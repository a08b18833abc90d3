use Rattle.std.proofs.Common.{◌≡◌, take}
use Rattle.modbus_pdu.specs.Word.{words}
use Rattle.modbus_poll.proofs.value.bytes_of.Given as goal

abbrev pub invariant-loop-word : goal.invariant-loop-word
invariant-loop-word l = l.bytes.items ≡ words (take l.word-index l.words)
