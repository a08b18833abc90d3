use Rattle.modbus_reconnect.proofs.Fresh.{fresh_is_ready}
use Rattle.modbus_reconnect.proofs.client.ReconnectingClient.take_client.Goals as goal
use Rattle.modbus_reconnect.proofs.client.ReconnectingClient.take_client.Goals.{in-Ok, in-Err}

pub returns-clause-ready : goal.returns-clause-ready
returns-clause-ready g c = rw (← c.self.view_is)
    (elim c.match-opened.branch [
      | in-Ok w ↦ rw w.result-is (let (given, connects, fresh) = w.in-Ok.ensures in fresh_is_ready _ _ _ _ _ given _ connects fresh)
      | in-Err w ↦ rw w.result-is tt
    ])
