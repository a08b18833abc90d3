use Rattle.modbus_reconnect.proofs.Dropping.{hushed_none, hushed_more, drops_silence}
use Rattle.modbus_reconnect.proofs.looking.look_at_client.Goals as goal

pub returns-in-Ok-Pending-clause-drops : goal.returns-in-Ok-Pending-clause-drops
returns-in-Ok-Pending-clause-drops g c =
    let found = rw c.in-Ok-Pending.field-0-is at c.in-Ok-Pending.ensures in
    drops_silence 1 _ _ _ _ _ (hushed_more 0 _ _ _ _ _ _ (hushed_none _ _) found.source (λ told. (found.told told).bytes) found.looked found.later)
