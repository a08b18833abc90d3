use Rattle.std.proofs.Common.{refl}
use Rattle.modbus_reconnect.proofs.client.ReconnectingClientClient.disconnect.Goals as goal
use Rattle.modbus_reconnect.proofs.client.ReconnectingClientClient.disconnect.Goals.{in-Some, in-None}

pub returns : goal.returns
returns g c = rw (← c.self.view_is, c.take.ensures.after)
    (elim c.match-take.branch [
      | in-Some w ↦ rw w.result-is (record { client = rw (← w.in-Some.ensures.value) (w.disconnect.new.self, w.disconnect.ensures); rest = refl })
      | in-None w ↦ rw w.result-is (record { client = rw (← w.in-None.ensures.value) refl; rest = refl })
    ])
