use Rattle.modbus_hub.specs.Idlest.{IsIdlestBelow}
use Rattle.modbus_hub.proofs.seats.Seats.idlest.Given as goal

abbrev pub invariant-keys : goal.invariant-keys
invariant-keys g l = IsIdlestBelow l.key l.self.seats l.found
