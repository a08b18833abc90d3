use Rattle.std.proofs.Common.{arith, ◌≤◌, length}
use Rattle.modbus_hub.proofs.Idling.{idlest_all}
use Rattle.modbus_hub.proofs.seats.Seats.idlest.Goals as goal

pub returns : goal.returns
returns g c =
    let room : length c.args.self.now.seats.slots ≤ c.keys.key = rw (← c.self.view_is) (omega (arith, c.keys-test.false, c.capacity-key-end.ensures.slots)) in
    idlest_all c.args.self.now.seats c.keys.key room c.keys.found c.keys.invariant
