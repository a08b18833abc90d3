use Rattle.std.proofs.Common.{rules, ◌<◌, ◌≤◌, ◌-◌, ◌^◌, length, arith}
use Rattle.modbus_map.proofs.Digits.{whole_fits, fraction_fits}
use Rattle.modbus_map.proofs.decimal.number_of.Goals as goal

pub digits_after-requires : goal.digits_after-requires
digits_after-requires c =
    let few : length c.args.whole.now ≤ 38 - length c.args.fraction.now = search rules in
    omega (arith, whole_fits (length c.args.whole.now) (length c.args.fraction.now) few)

pub digits_after-requires-2 : goal.digits_after-requires-2
digits_after-requires-2 c =
    let few : length c.args.whole.now ≤ 38 - length c.args.fraction.now = search rules in
    let short : length c.args.fraction.now ≤ 18 = search rules in
    let below : c.in-Some.before < 10 ^ length c.args.whole.now = omega (arith, c.in-Some.ensures.below) in
    fraction_fits c.in-Some.before (length c.args.whole.now) (length c.args.fraction.now) below few short

pub signed-units-requires : goal.signed-units-requires
signed-units-requires c =
    let few : length c.args.whole.now ≤ 38 - length c.args.fraction.now = search rules in
    let short : length c.args.fraction.now ≤ 18 = search rules in
    let below : c.in-Some.before < 10 ^ length c.args.whole.now = omega (arith, c.in-Some.ensures.below) in
    omega (arith, c.in-Some-digits_after.ensures.below, fraction_fits c.in-Some.before (length c.args.whole.now) (length c.args.fraction.now) below few short)
