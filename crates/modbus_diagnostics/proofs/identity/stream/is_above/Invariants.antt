use Rattle.std.proofs.Common.{◌≡◌, take, false}
use Rattle.std.specs.Prelude.{nat_lt}
use Rattle.std.specs.List.{list_any}
use Rattle.modbus_diagnostics.proofs.identity.stream.is_above.Given as goal

abbrev pub invariant-loop-it : goal.invariant-loop-it
invariant-loop-it l = list_any (λ o. nat_lt l.last o.id) (take l.it-index l.objects) ≡ false
