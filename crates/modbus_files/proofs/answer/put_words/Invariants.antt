use Rattle.std.proofs.Common.{◌≡◌, ◌+◌, ◌*◌, ◌++◌, take}
use Rattle.arrayvec.specs.ArrayVec.{array_vec_len}
use Rattle.modbus_pdu.specs.Word.{words}
use Rattle.modbus_files.proofs.answer.put_words.Given as goal

-- the registers so far
abbrev pub invariant-loop-word : goal.invariant-loop-word
invariant-loop-word l = record {
  items : l.told.items ≡ l.fn.told.items ++ words (take l.word-index l.words);
  len : array_vec_len l.told ≡ array_vec_len l.fn.told + 2 * l.word-index;
}
