use Rattle.std.proofs.Common.{[], Some, refl, sym, subst, arith}
use Rattle.modbus_client.specs.Tcp.{DropsAdus, EndsOfAnother}
use Rattle.modbus_client.proofs.OwnAdu.{drops_none, drops_next}
use Rattle.modbus_client.proofs.transactions.drop_others.Goals as goal

pub others-init : goal.others-init
others-init c = ([], drops_none c.args.asked c.args.held.now.items, refl)

pub others-preserved : goal.others-preserved
others-preserved c =
    let another = subst (λ b. EndsOfAnother c.args.asked b (Some c.in-Some.end)) c.as_slice.ensures c.in-Some.ensures in
    let (adus, drops, count) = c.others.invariant in
    let (all, dropped, one) = drops_next c.args.asked c.args.held.now.items c.others.held.items adus c.in-Some.end drops another in
    (all, subst (λ left. DropsAdus c.args.asked c.args.held.now.items all left) (sym c.advance.ensures.items) dropped, omega (arith, c.saturating_add-dropped.ensures, count, one))
