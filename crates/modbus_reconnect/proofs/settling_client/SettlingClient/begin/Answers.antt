use Rattle.modbus_reconnect.specs.OnLine.{begun}
use Rattle.modbus_reconnect.proofs.settling_client.SettlingClient.begin.Goals as goal

pub returns-clause-stands : goal.returns-clause-stands
returns-clause-stands g c =
    rw (← c.self.view_is)
    (λ stands certain. begun c.self.inside.link c.begin.new.self (stands certain)
    (record {
      source = c.begin.ensures.source;
      sink = c.begin.ensures.sink;
      state = c.begin.ensures.line;
      silences = c.begin.ensures.silences;
      looks = c.begin.ensures.looks;
    }))
