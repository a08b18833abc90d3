use Rattle.modbus_fleet.proofs.Ordered.{first_kept}
use Rattle.modbus_fleet.proofs.dues.Dues.first.Goals as goal

pub returns : goal.returns
returns c = rw (← c.self.view_is) (first_kept c.self.inside.ordered c.self.inside.times.items c.first_of.result c.self.invariant c.first_of.ensures)
