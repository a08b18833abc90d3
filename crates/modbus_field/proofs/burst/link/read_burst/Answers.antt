use Rattle.modbus_field.proofs.BurstPieces.{gives_burst}
use Rattle.modbus_field.proofs.burst.link.read_burst.Goals as goal

pub returns-in-Ok-clause-gives : goal.returns-in-Ok-clause-gives
returns-in-Ok-clause-gives g c =
    let found = c.in-Ok.ensures in
    gives_burst g.L.Ends.input g.L.PolledLink.not_ready _ _ _ c.in-Ok.first c.args.room.now c.begin.new.room c.finish.new.room found.source found.later found.length found.told found.behind c.finish.result c.finish.ensures.finishes
