use Rattle.std.proofs.Common.{[], ◌-◌, None, refl, subst, arith, length-drop, length, drop, take, ap}
use Rattle.modbus_client.specs.Tcp.{EndsOfAnother}
use Rattle.modbus_c.proofs.Dropping.{drops_none, drops_next, rest_of}
use Rattle.modbus_c.proofs.seek.end_of_others.Goals as goal

pub others-init : goal.others-init
others-init c = (omega arith, ([], drops_none c.args.asked c.args.bytes.now))

pub others-preserved : goal.others-preserved
others-preserved c =
    let bytes = c.args.bytes.now in let start = c.others.start in let (within, found) = c.others.invariant in let (adus, drops) = found in
    let same = rest_of bytes start in
    let another = c.in-Some.ensures in (
      omega (arith, another.1, within, ap length same, length-drop start bytes),
      drops_next c.args.asked bytes (take (length bytes - start) (drop start bytes)) start c.in-Some.end _ adus same drops another refl,
    )

pub returns-clause-dropped : goal.returns-clause-dropped
returns-clause-dropped c = c.others.invariant.1

pub returns-clause-all : goal.returns-clause-all
returns-clause-all c = subst (λ b. EndsOfAnother c.args.asked b None) (rest_of c.args.bytes.now c.others.start) c.in_default.ensures
