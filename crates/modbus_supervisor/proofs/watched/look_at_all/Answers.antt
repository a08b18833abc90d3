use Rattle.std.proofs.Common.{◌<◌, ◌++◌, ◌∙◌, List, ℕ, length, ap, sym, subst, append_assoc, arith}
use Rattle.modbus_map.specs.Gathering.{seen_by}
use Rattle.modbus_supervisor.specs.Watched.{TellsGiven}
use Rattle.modbus_supervisor.proofs.Telling.{told_more, rest_more}
use Rattle.modbus_supervisor.proofs.watched.look_at_all.Goals as goal

pub loop-point-preserved : goal.loop-point-preserved
loop-point-preserved c =
    let within : c.loop-point.point-index < length c.loop-point.points = omega (arith, c.loop-point.auto.points, c.loop-point-test.true) in
    let so_far = c.loop-point.invariant.0 in
    let one = c.in_ok-look.ensures in
    let told = told_more (TellsGiven c.args.stamp (seen_by (λ v. v.items) c.args.given.now)) c.args.points.now c.loop-point.points so_far.0 one.0
    c.loop-point.point-index c.point-item.result c.look.new.self within c.loop-point.auto.points c.point-item.is c.loop-point.invariant.1 so_far.1
    (subst (λ old. TellsGiven c.args.stamp (seen_by (λ v. v.items) c.args.given.now) old one.0 c.look.new.self) (sym c.point-item.is) one.1) in (
      (so_far.0 ++ one.0, told, one.2 ∙ ap (λ (l : List ℕ). l ++ one.0) so_far.2 ∙ append_assoc _ so_far.0 one.0),
      rest_more c.args.points.now c.loop-point.points c.loop-point.point-index c.look.new.self c.loop-point.invariant.1,
    )
