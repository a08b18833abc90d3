use Rattle.std.proofs.Common.{◌≡◌, take}
use Rattle.modbus_field.specs.LineAnswers.{addresses_of}
use Rattle.modbus_diagnostics.proofs.port.addresses_of.Given as goal

abbrev pub invariant-loop-it : goal.invariant-loop-it
invariant-loop-it g l = l.addresses.items ≡ addresses_of (take l.it-index l.units)
