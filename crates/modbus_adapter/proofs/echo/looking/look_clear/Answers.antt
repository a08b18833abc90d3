use Rattle.modbus_adapter.proofs.Echoes.{drops_same, gives_behind, ended_by}
use Rattle.modbus_adapter.proofs.echo.looking.look_clear.Goals as goal

pub returns-clause-gives : goal.returns-clause-gives
returns-clause-gives g c =
    let found = c.look.ensures in
    rw c.no_collision.ensures.told (gives_behind _ _ _ _ _ _ _ _ (drops_same _ _) c.requires.none found.source (λ told. (found.told told).bytes) found.cause
    (ended_by _ _ _ _ _ found.source found.told) c.no_collision.ensures.none)
