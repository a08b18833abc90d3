use Rattle.std.proofs.Common.{rules, ◌≡◌, ◌<◌, ◌++◌, ◌∷◌, [], ◌+◌, ◌*◌, ◌^◌, ◌/◌, List, ℕ, ap, ◌∙◌}
use Rattle.modbus_map.specs.Orders.{from_low}
use Rattle.modbus_map.proofs.WordsOf.{one_more, one_less}
use Rattle.modbus_map.proofs.order.low_words.Goals as goal

pub loop-place-preserved : goal.loop-place-preserved
loop-place-preserved c =
    let pushed : c.push.new.self.items ≡ c.loop-place.words.items ++ c.word.result ∷ [] = search rules in
    let less : c.loop-place._place < c.args.count = search rules in
    record {
      count = search rules;
      number = ap (λ (words : List ℕ). from_low c.args.order words + 2 ^ (16 * (c.loop-place._place + 1)) * (c.loop-place.rest / 65536)) pushed
          ∙ one_more c.args.order c.loop-place.words.items c.loop-place._place c.loop-place.rest c.args.number c.word.result
          c.loop-place.invariant.count c.word.ensures c.loop-place.invariant.number;
      below = one_less c.args.count c.loop-place._place c.loop-place.rest less c.loop-place.invariant.below;
    }
