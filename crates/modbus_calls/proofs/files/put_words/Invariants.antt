use Rattle.std.proofs.Common.{◌≡◌, ◌+◌, ◌*◌, ◌++◌, take}
use Rattle.arrayvec.specs.ArrayVec.{array_vec_len}
use Rattle.modbus_pdu.specs.Word.{words}
use Rattle.modbus_calls.proofs.files.put_words.Given as goal

-- the registers so far
abbrev pub invariant-loop-word : goal.invariant-loop-word
invariant-loop-word l = record {
  items : l.bytes.items ≡ l.fn.bytes.items ++ words (take l.word-index l.words);
  len : array_vec_len l.bytes ≡ array_vec_len l.fn.bytes + 2 * l.word-index;
}
