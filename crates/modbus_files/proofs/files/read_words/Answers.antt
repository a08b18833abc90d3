use Rattle.std.proofs.Common.{◌*◌, length, arith, rules}
use Rattle.std.proofs.lemmas.List.FromFn.{fill_by_all}
use Rattle.modbus_pdu.specs.Fields.{word_at}
use Rattle.modbus_files.proofs.files.read_words.Goals as goal

pub returns : goal.returns
returns c = fill_by_all (λ i. word_at c.args.bytes.now (2 * i)) c.loop-i.words (length c.args.words.now) 0 (search rules) (λ k lt. c.loop-i.invariant k (omega arith))
