use Rattle.std.proofs.Common.{rules, ◌≡◌, ◌<◌, ◌≤◌, ◌^◌, Bool, false, true, length, get_or, Some, None, if◌then◌else◌, sym, ap, arith, ℕ}
use Rattle.std.proofs.Math.Nat.{pow-le-pow_right}
use Rattle.modbus_poll.specs.Notation.{is_digit, number}
use Rattle.modbus_poll.proofs.Digits.{not_digits}
use Rattle.modbus_poll.proofs.number.number_of.Goals as goal

-- seven digits at most
at_most_six : (index : ℕ) → index < 7 → 10 ^ index ≤ 1000000
at_most_six index below = pow-le-pow_right {n = 10} (omega arith) {i = index} {j = 6} (omega (arith, below))

pub overflow_mul-value : goal.overflow_mul-value
overflow_mul-value c =
    let below : c.loop-byte.byte-index < length c.args.text.now = search rules in
    omega (arith, at_most_six c.loop-byte.byte-index (omega (arith, below, c.requires)), c.loop-byte.invariant.bound)

pub overflow_add-value : goal.overflow_add-value
overflow_add-value c =
    let below : c.loop-byte.byte-index < length c.args.text.now = search rules in
    let small : c.from.result < 256 = search rules in
    omega (arith, at_most_six c.loop-byte.byte-index (omega (arith, below, c.requires)), c.loop-byte.invariant.bound, small)

pub returns-then-not-is_ascii_digit : goal.returns-then-not-is_ascii_digit
returns-then-not-is_ascii_digit c =
    let below : c.loop-byte.byte-index < length c.args.text.now = search rules in
    let bad : is_digit (get_or c.args.text.now c.loop-byte.byte-index 0) ≡ false = search rules in
    sym (ap (λ (b : Bool). if b then Some (number c.args.text.now) else None) (not_digits c.args.text.now c.loop-byte.byte-index true below bad))
