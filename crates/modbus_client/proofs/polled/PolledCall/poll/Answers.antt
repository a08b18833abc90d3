use Rattle.modbus_client.proofs.Polling.{asks_whole}
use Rattle.modbus_client.proofs.polled.PolledCall.poll.Goals as goal

pub returns-clause-asked : goal.returns-clause-asked
returns-clause-asked g c = rw (← c.self.view_is) (asks_whole g.P.Protocol.protocol _ _ _ _ _ _ _ _ c.poll-answer.result c.poll-answer.ensures.polled)
