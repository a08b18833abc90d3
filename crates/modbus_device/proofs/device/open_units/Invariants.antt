use Rattle.std.proofs.Common.{◌≡◌, take}
use Rattle.modbus_field.specs.LineAnswers.{addresses_of}
use Rattle.modbus_device.proofs.device.open_units.Given as goal

abbrev pub invariant-loop-address : goal.invariant-loop-address
invariant-loop-address l = addresses_of l.units.items ≡ take l.address-index l.plan.units.now
