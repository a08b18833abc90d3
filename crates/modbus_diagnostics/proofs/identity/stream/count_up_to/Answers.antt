use Rattle.std.proofs.Common.{◌≤◌}
use Rattle.modbus_diagnostics.proofs.Parts.{rise_above, all_more}
use Rattle.modbus_diagnostics.proofs.identity.stream.count_up_to.Goals as goal

pub returns-then-it-last-clause-high : goal.returns-then-it-last-clause-high
returns-then-it-last-clause-high c =
    rise_above c.args.objects.now c.loop-place.place c.args.last c.index-objects-place.result c.loop-place-test.true c.index-objects-place.is
    c.if-it-last.true c.requires

pub loop-place-preserved : goal.loop-place-preserved
loop-place-preserved c =
    all_more (λ o. o.id ≤ c.args.last) c.args.objects.now c.loop-place.place c.index-objects-place.result c.loop-place-test.true
    c.index-objects-place.is c.loop-place.invariant c.if-it-last.false
