use Rattle.std.proofs.Common.{◌≡◌, ◌+◌, ◌*◌, ◌^◌, ◌<◌, length, subst, arith, ℕ}
use Rattle.modbus_map.proofs.Sizes.{room, grown}
use Rattle.modbus_map.proofs.order.+number.Goals as goal

pub overflow_mul-result : goal.overflow_mul-result
overflow_mul-result t c =
    let rest : length c.in-Some.higher.now + 1 ≡ length c.args.words.now = c.in-Some.ensures.rest in
    let fits = room (length c.in-Some.higher.now) c.number.result (omega arith) c.number.ensures.below in
    omega (arith, fits)

pub overflow_add-result : goal.overflow_add-result
overflow_add-result t c =
    let rest : length c.in-Some.higher.now + 1 ≡ length c.args.words.now = c.in-Some.ensures.rest in
    let fits = room (length c.in-Some.higher.now) c.number.result (omega arith) c.number.ensures.below in
    omega (arith, fits)

pub returns-in-Some-clause-below : goal.returns-in-Some-clause-below
returns-in-Some-clause-below t c =
    let rest : length c.in-Some.higher.now + 1 ≡ length c.args.words.now = c.in-Some.ensures.rest in
    subst (λ (n : ℕ). c.from.result + 65536 * c.number.result < 2 ^ (16 * n)) rest (grown (length c.in-Some.higher.now) c.number.result c.from.result c.number.ensures.below (omega arith))
