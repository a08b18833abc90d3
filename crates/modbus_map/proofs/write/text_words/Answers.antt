use Rattle.std.proofs.Common.{rules, ◌≡◌, ◌<◌, ◌++◌, ◌∷◌, [], ◌+◌, ◌*◌, get_or, ap, ◌∙◌}
use Rattle.modbus_map.specs.Values.{bytes_of}
use Rattle.modbus_map.proofs.Texts.{word_more}
use Rattle.modbus_map.proofs.write.text_words.Goals as goal

pub loop-place-preserved : goal.loop-place-preserved
loop-place-preserved c =
    let pushed : c.push.new.self.items ≡ c.loop-place.words.items ++ c.word.result ∷ [] = search rules in
    let less : c.loop-place.place < c.args.count = search rules in
    let a : c.from.result ≡ get_or c.args.bytes.now (2 * c.loop-place.place) 0 = search rules in
    let b : c.from-in-loop-place.result ≡ get_or c.args.bytes.now (2 * c.loop-place.place + 1) 0 = search rules in
    let small_a : c.from.result < 256 = search rules in
    let small_b : c.from-in-loop-place.result < 256 = search rules in
    record {
      count = search rules;
      bytes = ap (bytes_of c.args.order) pushed
          ∙ word_more c.args.order c.loop-place.words.items c.args.bytes.now c.args.count c.loop-place.place c.from.result c.from-in-loop-place.result c.word.result
          less c.requires a b small_a small_b c.word.ensures c.loop-place.invariant.bytes;
    }
