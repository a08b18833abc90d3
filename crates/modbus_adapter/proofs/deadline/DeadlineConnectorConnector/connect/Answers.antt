use Rattle.std.proofs.Common.{refl}
use Rattle.modbus_adapter.proofs.deadline.DeadlineConnectorConnector.connect.Goals as goal

pub returns-clause-connects : goal.returns-clause-connects
returns-clause-connects g c = record {
  given = c.connect-given.result;
  asks = rw (← c.self.view_is) c.connect-given.ensures.connects;
  told = rw (← c.self.view_is) c.with_deadline.ensures;
  rest = rw (← c.self.view_is) refl;
}
