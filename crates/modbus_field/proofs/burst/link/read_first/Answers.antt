use Rattle.modbus_field.proofs.BurstPieces.{gives_at_once, fails_at_once}
use Rattle.modbus_field.proofs.burst.link.read_first.Goals as goal

pub returns-in-Ok-clause-gives : goal.returns-in-Ok-clause-gives
returns-in-Ok-clause-gives g c =
    let found = rw c.in-Ok-Ready.field-0-is at c.in-Ok-Ready.ensures in
    gives_at_once g.L.Ends.input g.L.PolledLink.not_ready _ _ _ c.in-Ok-Ready.first c.in-Ok.count c.args.room.now c.poll_counted.new.room c.finish.new.room
    found.source found.later c.poll_counted.auto.room (λ told. (found.told told).bytes) found.counted c.in-Ok.ensures.finishes

pub returns-in-Err-finish-clause-gives : goal.returns-in-Err-finish-clause-gives
returns-in-Err-finish-clause-gives g c =
    let found = rw c.in-Ok-Ready.field-0-is at c.in-Ok-Ready.ensures in
    fails_at_once _ _ _ found.source c.in-Err-finish.ensures.finishes.source c.in-Err-finish.ensures.finishes.cause
