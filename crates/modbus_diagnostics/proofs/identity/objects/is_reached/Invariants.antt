use Rattle.std.proofs.Common.{◌<◌, take}
use Rattle.std.specs.List.{All}
use Rattle.modbus_diagnostics.proofs.identity.objects.is_reached.Given as goal

abbrev pub invariant-loop-it : goal.invariant-loop-it
invariant-loop-it l = All (λ o. o.id < l.id) (take l.it-index l.objects)
