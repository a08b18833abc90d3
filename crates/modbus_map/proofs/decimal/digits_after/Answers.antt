use Rattle.std.proofs.Common.{rules, ◌≡◌, ◌<◌, ◌≤◌, Bool, false, true, length, get_or, Some, None, if◌then◌else◌, sym, ap, arith}
use Rattle.std.proofs.lemmas.Grind.{common_steps}
use Rattle.modbus_map.specs.Decimals.{is_digit, number_after}
use Rattle.modbus_map.proofs.Digits.{not_digits, grown, room}
use Rattle.modbus_map.proofs.decimal.digits_after.Goals as goal

pub returns-then-not-is_ascii_digit-clause-exact : goal.returns-then-not-is_ascii_digit-clause-exact
returns-then-not-is_ascii_digit-clause-exact c =
    let below : c.loop-byte.byte-index < length c.args.digits.now = search rules in
    let bad : is_digit (get_or c.args.digits.now c.loop-byte.byte-index 0) ≡ false = search rules in
    sym (ap (λ (b : Bool). if b then Some (number_after c.args.start c.args.digits.now) else None) (not_digits c.args.digits.now c.loop-byte.byte-index true below bad))

pub overflow_mul-value : goal.overflow_mul-value
overflow_mul-value c =
    let below : c.loop-byte.byte-index < length c.args.digits.now = search rules in
    omega (arith, room c.loop-byte.value c.args.start c.loop-byte.byte-index (length c.args.digits.now) c.loop-byte.invariant.bound below c.requires)

pub overflow_add-value : goal.overflow_add-value
overflow_add-value c =
    let below : c.loop-byte.byte-index < length c.args.digits.now = search rules in
    let small : c.from.result ≤ 9 = search rules in
    omega (arith, small, room c.loop-byte.value c.args.start c.loop-byte.byte-index (length c.args.digits.now) c.loop-byte.invariant.bound below c.requires)

pub loop-byte-preserved : goal.loop-byte-preserved
loop-byte-preserved c =
    let small : c.from.result ≤ 9 = search rules in
    record {
      digits = grind (arith, common_steps);
      value = grind (arith, common_steps);
      bound = grown c.loop-byte.value c.args.start c.loop-byte.byte-index c.from.result c.loop-byte.invariant.bound small;
    }
