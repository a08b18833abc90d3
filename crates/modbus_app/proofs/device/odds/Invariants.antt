use Rattle.std.proofs.Common.{◌≡◌}
use Rattle.modbus_app.specs.Device.{entries_by, odd}
use Rattle.modbus_app.proofs.device.odds.Given as goal

abbrev pub invariant-loop-i : goal.invariant-loop-i
invariant-loop-i l = l.table.items ≡ entries_by odd l.i
