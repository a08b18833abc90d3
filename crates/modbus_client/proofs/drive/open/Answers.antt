use Rattle.modbus_client.proofs.Polling.{opened, unopened_long, unopened_wanting}
use Rattle.modbus_client.proofs.drive.open.Goals as goal

pub returns-in-Ok-clause-opens : goal.returns-in-Ok-clause-opens
returns-in-Ok-clause-opens g c = opened g.P.Protocol.protocol _ _ _ _ c.in-Ok.ensures.opens

pub returns-in-Err-TooLong-clause-opens : goal.returns-in-Err-TooLong-clause-opens
returns-in-Err-TooLong-clause-opens g c = unopened_long g.P.Protocol.protocol _ _ _ _ (rw c.in-Err-TooLong.field-0-is at c.in-Err-TooLong.ensures.opens)

pub returns-in-Err-NoMemory-clause-opens : goal.returns-in-Err-NoMemory-clause-opens
returns-in-Err-NoMemory-clause-opens g c = unopened_wanting g.P.Protocol.protocol _ _ _ (rw c.in-Err-NoMemory.field-0-is at c.in-Err-NoMemory.ensures.opens)
