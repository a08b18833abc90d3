use Rattle.std.proofs.Common.{take}
use Rattle.modbus_hub.specs.Seats.{IsFound}
use Rattle.modbus_hub.proofs.seats.is_found.Given as goal

abbrev pub invariant-found : goal.invariant-found
invariant-found l = IsFound l.fn.key (take l.index l.fn.found) → ⊥
