use Rattle.std.proofs.Common.{◌≡◌, take}
use Rattle.modbus_diagnostics.proofs.identity.stream.copy_of.Given as goal

abbrev pub invariant-loop-it : goal.invariant-loop-it
invariant-loop-it l = l.copy.items ≡ take l.it-index l.objects
