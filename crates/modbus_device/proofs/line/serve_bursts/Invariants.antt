use Rattle.std.proofs.Common.{◌≡◌}
use Rattle.modbus_device.proofs.line.serve_bursts.Given as goal

abbrev pub invariant-loop : goal.invariant-loop
invariant-loop g l = l.device.units ≡ l.fn.device.units
