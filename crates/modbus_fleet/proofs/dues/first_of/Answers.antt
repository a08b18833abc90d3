use Rattle.modbus_fleet.proofs.Ordered.{no_later}
use Rattle.modbus_fleet.proofs.dues.first_of.Goals as goal

pub returns-in-Some : goal.returns-in-Some
returns-in-Some c = (
  c.in-Some.ensures.member,
  λ other is_there. no_later c.in-Some.due.now other (c.in-Some.ensures.least other is_there),
)
