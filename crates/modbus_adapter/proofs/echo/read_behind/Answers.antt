use Rattle.modbus_adapter.proofs.Echoes.{gives_behind, ended_by}
use Rattle.modbus_adapter.proofs.echo.read_behind.Goals as goal

pub returns-in-Ok-clause-gives : goal.returns-in-Ok-clause-gives
returns-in-Ok-clause-gives g c =
    let taken = c.in-Ok.ensures.takes in
    let found = c.poll_counted.ensures in
    rw c.no_collision.ensures.told (gives_behind _ _ _ _ _ _ _ _ taken.drops taken.all found.source (λ told. (found.told told).bytes) found.cause
    (ended_by _ _ _ _ _ found.source found.told) c.no_collision.ensures.none)
