use Rattle.std.proofs.Common.{◌<◌}
use Rattle.modbus_diagnostics.proofs.Parts.{all_more, all_seen}
use Rattle.modbus_diagnostics.proofs.identity.objects.is_reached.Goals as goal

pub loop-it-preserved : goal.loop-it-preserved
loop-it-preserved c =
    all_more (λ o. o.id < c.args.id) c.args.objects.now c.loop-it.it-index c.it-item.result c.loop-it-test.true c.it-item.is c.loop-it.invariant
    c.if-it-id.false

pub returns-clause-none : goal.returns-clause-none
returns-clause-none c = λ _. all_seen (λ o. o.id < c.args.id) c.args.objects.now c.loop-it.it-index c.loop-it-test.false c.loop-it.invariant
